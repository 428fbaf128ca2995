use Rattle.std.proofs.Common.{◌≡◌, ◌∙◌, [], ◌∷◌, List, ℕ, IfOk, codes, subst}
use Rattle.printed_lines.proofs.TextSteps.{last_line, then_line}
use Rattle.sample_network.proofs.text.with_ospf.Goals as goal

pub returns : goal.returns
returns c =
    let head = codes "router ospf 1" in
    let network = codes " network 10.0.0.0 0.255.255.255 area 0" in
    let all = last_line c.in_ok-text.text c.in_ok-start-2.field-0 network c.in_ok-start-2.ensures
    ∙ then_line c.args.text c.in_ok-start.field-0 head c.in_ok-text.text (network ∷ []) c.in_ok-start.ensures c.in_ok-text.ensures in
    subst (λ (s : List ℕ). IfOk c.line-2.result (λ longer. longer ≡ s)) all c.line-2.ensures
