use Rattle.std.proofs.Common.{◌≡◌, ◌++◌, List, ℕ, IfOk, ap, codes, subst}
use Rattle.printed_lines.specs.Texts.{text_of}
use Rattle.sample_network.specs.SampleTexts.{link_lines}
use Rattle.sample_network.proofs.text.with_next.Goals as goal

pub returns : goal.returns
returns c =
    let all = ap (λ a. c.args.text ++ text_of (link_lines c.args.routers (codes "GigabitEthernet0/0") a c.args.router)) c.near_end.ensures in
    subst (λ (s : List ℕ). IfOk c.with_link.result (λ longer. longer ≡ s)) all c.with_link.ensures
