use Rattle.std.proofs.Common.{◌≡◌, ◌∙◌, ◌++◌, List, ℕ, IfOk, ap, codes, subst}
use Rattle.printed_lines.specs.Texts.{text_of}
use Rattle.sample_network.specs.SampleLinks.{far_end}
use Rattle.sample_network.specs.SampleTexts.{link_lines}
use Rattle.sample_network.proofs.text.with_before.Goals as goal

pub returns : goal.returns
returns c =
    let text_with = λ (a l : ℕ). c.args.text ++ text_of (link_lines c.args.routers (codes "GigabitEthernet0/1") a l) in
    let all = ap (λ a. text_with a c.link_before-link.result) c.far_end.ensures
    ∙ ap (λ l. text_with (far_end l) l) c.link_before-link.ensures.link in
    subst (λ (s : List ℕ). IfOk c.with_link.result (λ longer. longer ≡ s)) all c.with_link.ensures
