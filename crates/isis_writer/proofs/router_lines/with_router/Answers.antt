use Rattle.std.proofs.Common.{◌≡◌, ◌∙◌, ◌++◌, List, ℕ, IfOk, ap, subst}
use Rattle.std.specs.List.{flat_map}
use Rattle.printed_lines.specs.Texts.{text_of}
use Rattle.design_file.specs.declared.settled.SettledInterface.{SettledInterface}
use Rattle.isis_writer.specs.RouterLines.{has_old_line, interface_lines, process_lines}
use Rattle.printed_lines.proofs.TextSteps.{then_lines}
use Rattle.isis_writer.proofs.router_lines.with_router.Goals as goal

pub returns : goal.returns
returns c =
    let router = c.args.router.now in
    let lines_of : List SettledInterface → List (List ℕ) =
    λ is. flat_map (λ (i : SettledInterface). interface_lines (has_old_line c.args.old.now i.name) i) is in
    let all = ap (λ (is : List SettledInterface). c.in_ok-text.text ++ text_of (lines_of is)) c.as_slice.ensures
    ∙ then_lines c.args.text c.in_ok-text.text (process_lines c.args.number router) (lines_of router.interfaces) c.in_ok-text.ensures in
    subst (λ (s : List ℕ). IfOk c.with_interfaces.result (λ longer. longer ≡ s)) all c.with_interfaces.ensures
