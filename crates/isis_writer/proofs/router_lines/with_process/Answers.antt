use Rattle.std.proofs.Common.{◌≡◌, ◌∙◌, ◌∷◌, ◌++◌, List, ℕ, IfOk, ap, subst}
use Rattle.std.specs.List.{flat_map}
use Rattle.printed_lines.specs.Texts.{text_of}
use Rattle.design_file.specs.declared.settled.SettledInterface.{SettledInterface}
use Rattle.isis_writer.specs.RouterLines.{idle_distance_line, leak_lines, passive_lines, process_head, style_line, title_line, type_line}
use Rattle.printed_lines.proofs.TextSteps.{then_line, then_lines}
use Rattle.isis_writer.proofs.router_lines.with_process.Goals as goal

pub returns : goal.returns
returns c =
    let router = c.args.router.now in
    let passives = flat_map passive_lines router.interfaces in
    let leaks = leak_lines router.leak ++ passives in
    let distances : List (List ℕ) = idle_distance_line ∷ leaks in
    let styles : List (List ℕ) = style_line ∷ distances in
    let types : List (List ℕ) = type_line router.levels ∷ styles in
    let title = c.in_ok-title_line.ensures ∙ ap (λ area. title_line area c.args.number) c.as_slice.ensures in
    let titles : List (List ℕ) = title_line router.area c.args.number ∷ types in
    let all = ap (λ (is : List SettledInterface). c.in_ok-text-6.text ++ text_of (flat_map passive_lines is)) c.as_slice-2.ensures
    ∙ then_lines c.in_ok-text-5.text c.in_ok-text-6.text (leak_lines router.leak) passives c.in_ok-text-6.ensures
    ∙ then_line c.in_ok-text-4.text c.in_ok-distance_line.field-0 idle_distance_line c.in_ok-text-5.text leaks
    c.in_ok-distance_line.ensures c.in_ok-text-5.ensures
    ∙ then_line c.in_ok-text-3.text c.in_ok-style_line.field-0 style_line c.in_ok-text-4.text distances c.in_ok-style_line.ensures c.in_ok-text-4.ensures
    ∙ then_line c.in_ok-text-2.text c.in_ok-type_line.field-0 (type_line router.levels) c.in_ok-text-3.text styles c.in_ok-type_line.ensures
    c.in_ok-text-3.ensures
    ∙ then_line c.in_ok-text.text c.in_ok-title_line.field-0 (title_line router.area c.args.number) c.in_ok-text-2.text types title c.in_ok-text-2.ensures
    ∙ then_line c.args.text c.in_ok-process_head.field-0 process_head c.in_ok-text.text titles c.in_ok-process_head.ensures c.in_ok-text.ensures in
    subst (λ (s : List ℕ). IfOk c.with_passives.result (λ longer. longer ≡ s)) all c.with_passives.ensures
