use Rattle.std.proofs.Common.{◌∙◌, ℕ, List, ap, subst}
use Rattle.net_model.specs.Refusals.{IsNetwork}
use Rattle.refutation_check.specs.Verdicts.{IsTextVerdict, RefutesWhereClosed}
use Rattle.migrate_cli.specs.RefuteDecision.IsTreeDecision.{judged_tree}
use Rattle.migrate_cli.specs.steps.Tables.{NetworkMove, move_of}
use Rattle.migrate_cli.proofs.TableFacts.{refutes_where_closed, text_verdict}
use Rattle.migrate_cli.proofs.refute.refute_over.Goals as goal

pub returns : goal.returns
returns c =
    let of = c.args.of.now in
    let tables = c.in_ok-tables.tables in
    let mixed = c.in_ok-mixed.mixed in
    let mixes = c.in_ok-mixed.ensures in
    let found = c.in_ok-verdict.verdict in
    let text = c.as_slice.result.now in
    let is = subst (λ (m : NetworkMove). IsTextVerdict (move_of m) text found) c.in_ok-tables.ensures
    (text_verdict tables mixed mixes text found c.in_ok-verdict.ensures.verdict) in
    let means = subst (λ (m : NetworkMove). RefutesWhereClosed (move_of m) found) c.in_ok-tables.ensures
    (refutes_where_closed tables mixed mixes found c.in_ok-verdict.ensures.refutes) in
    judged_tree found (subst IsNetwork (mixes.net_is ∙ ap (λ (m : NetworkMove). m.net) c.in_ok-tables.ensures) c.verify.ensures.network)
    (subst (λ (t : List ℕ). IsTextVerdict (move_of of) t found) c.as_slice.ensures is) means
