use Rattle.std.proofs.Common.{◌≡◌, ℕ, List, [], ◌∷◌, ◌++◌, subst}
use Rattle.std.specs.Prelude.{IfOk, codes}
use Rattle.std.proofs.lemmas.Result.{IfOk-weaker}
use Rattle.net_model.specs.RouterNames.{names_of}
use Rattle.network_survey.specs.Pairs.{PortPair}
use Rattle.printed_lines.specs.Words.{prefix_word}
use Rattle.survey_report.specs.NetworkLines.{end_words, protocol_word, uneven_line}
use Rattle.survey_report.proofs.WordFacts.{spaced_more}
use Rattle.survey_report.proofs.network_lines.uneven_line.Goals as goal

pub returns : goal.returns
returns c =
    let w : List ℕ = codes "uneven" in
    let names : List (List ℕ) = names_of c.args.net.now in
    let a : List (List ℕ) = prefix_word c.pair.inside.one.subnet ∷ protocol_word c.args.by ∷ [] in
    let b : List (List ℕ) = end_words c.args.by names c.pair.inside.one in
    let d : List (List ℕ) = end_words c.args.by names c.pair.inside.other in
    let one = spaced_more w c.in_ok-start.start c.in_ok-one.one a b c.in_ok-start.ensures c.in_ok-one.ensures in
    subst (λ (p : PortPair). IfOk c.with_end-2.result (λ longer. longer ≡ uneven_line c.args.by names p)) c.pair.view_is
    (IfOk-weaker c.with_end-2.result _ _ (λ longer is. spaced_more w c.in_ok-one.one longer (a ++ b) d one is) c.with_end-2.ensures)
