use Rattle.std.proofs.Common.{◌+◌, ◌∙◌, ◌++◌, List, ℕ, ap, sym}
use Rattle.printed_lines.specs.Texts.{text_of}
use Rattle.sample_network.specs.SampleTexts.{sample_router_lines}
use Rattle.sample_network.proofs.TextFacts.{router_more}
use Rattle.sample_network.proofs.text.sample_text.Goals as goal

pub loop-before-preserved : goal.loop-before-preserved
loop-before-preserved c =
    let n = c.args.routers in
    let i = c.loop-before.before in
    c.in_ok-text.ensures
    ∙ ap (λ (text : List ℕ). text ++ text_of (sample_router_lines n (i + 1))) c.loop-before.invariant
    ∙ sym (router_more n i)
