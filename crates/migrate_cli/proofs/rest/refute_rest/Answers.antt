use Rattle.std.proofs.Common.{◌∙◌, ℕ, List, ap, subst}
use Rattle.net_model.specs.Refusals.{IsNetwork}
use Rattle.refutation_check.specs.RestVerdicts.{IsRestVerdict}
use Rattle.refutation_check.proofs.RestFacts.{rest_refutes}
use Rattle.migrate_cli.specs.RestDecision.IsRestTree.{judged_rest}
use Rattle.migrate_cli.specs.steps.Tables.{NetworkMove, move_of}
use Rattle.migrate_cli.proofs.RestTreeLaws.{rest_verdict}
use Rattle.migrate_cli.proofs.rest.refute_rest.Goals as goal

pub returns : goal.returns
returns c =
    let of = c.args.of.now in
    let mixed = c.in_ok-mixed.mixed in
    let mixes = c.in_ok-mixed.ensures in
    let found = c.in_ok-verdict.verdict in
    let text = c.as_slice.result.now in
    let is = subst (λ (t : List ℕ). IsRestVerdict (move_of of) t found) c.as_slice.ensures
    (subst (λ (m : NetworkMove). IsRestVerdict (move_of m) text found) c.in_ok-tables.ensures
    (rest_verdict c.in_ok-tables.tables mixed mixes text found c.in_ok-verdict.ensures.verdict)) in
    judged_rest found (subst IsNetwork (mixes.net_is ∙ ap (λ (m : NetworkMove). m.net) c.in_ok-tables.ensures) c.verify_rest.ensures.network) is
    (rest_refutes (move_of of) c.args.tree.now found is)
