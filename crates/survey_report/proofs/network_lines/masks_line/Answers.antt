use Rattle.std.proofs.Common.{◌≡◌, ℕ, List, [], subst}
use Rattle.std.specs.Prelude.{IfOk, codes}
use Rattle.std.proofs.lemmas.Result.{IfOk-weaker}
use Rattle.net_model.specs.RouterNames.{names_of}
use Rattle.network_survey.specs.Pairs.{PortPair}
use Rattle.survey_report.specs.NetworkLines.{masked_words, masks_line}
use Rattle.survey_report.proofs.WordFacts.{spaced_more, spaced_none}
use Rattle.survey_report.proofs.network_lines.masks_line.Goals as goal

pub returns : goal.returns
returns c =
    let w : List ℕ = codes "masks" in
    let names : List (List ℕ) = names_of c.args.net.now in
    let a : List (List ℕ) = masked_words names c.pair.inside.one in
    let b : List (List ℕ) = masked_words names c.pair.inside.other in
    let one =
    spaced_more w c.in_ok-start.start c.in_ok-one.one [] a (spaced_none w c.in_ok-start.start c.in_ok-start.ensures) c.in_ok-one.ensures in
    subst (λ (p : PortPair). IfOk c.with_masked-2.result (λ longer. longer ≡ masks_line names p)) c.pair.view_is
    (IfOk-weaker c.with_masked-2.result _ _ (λ longer is. spaced_more w c.in_ok-one.one longer a b one is) c.with_masked-2.ensures)
