use Rattle.std.proofs.Common.{◌≡◌, ◌∙◌, [], ◌∷◌, ◌++◌, List, ℕ, IfOk, codes, subst}
use Rattle.sample_network.specs.SampleTexts.{before_lines, sample_isis_lines, loopback_lines, next_lines, sample_ospf_lines}
use Rattle.printed_lines.proofs.TextSteps.{last_line, then_lines}
use Rattle.sample_network.proofs.text.with_router.Goals as goal

pub returns : goal.returns
returns c =
    let n = c.args.routers in
    let i = c.args.router in
    let end : List (List ℕ) = codes "end" ∷ [] in
    let isis = sample_isis_lines i ++ end in
    let ospf = sample_ospf_lines ++ isis in
    let before = before_lines n i ++ ospf in
    let next = next_lines n i ++ before in
    let all = last_line c.in_ok-text-5.text c.in_ok-start.field-0 (codes "end") c.in_ok-start.ensures
    ∙ then_lines c.in_ok-text-4.text c.in_ok-text-5.text (sample_isis_lines i) end c.in_ok-text-5.ensures
    ∙ then_lines c.in_ok-text-3.text c.in_ok-text-4.text sample_ospf_lines isis c.in_ok-text-4.ensures
    ∙ then_lines c.in_ok-text-2.text c.in_ok-text-3.text (before_lines n i) ospf c.in_ok-text-3.ensures
    ∙ then_lines c.in_ok-text.text c.in_ok-text-2.text (next_lines n i) before c.in_ok-text-2.ensures
    ∙ then_lines c.args.text c.in_ok-text.text (loopback_lines i) next c.in_ok-text.ensures in
    subst (λ (s : List ℕ). IfOk c.line.result (λ longer. longer ≡ s)) all c.line.ensures
