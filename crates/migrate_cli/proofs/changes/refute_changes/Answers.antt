use Rattle.std.proofs.Common.{◌∙◌, ℕ, List, ap, refl, subst}
use Rattle.net_model.specs.Refusals.{IsNetwork}
use Rattle.plan_theory.specs.declared.items.Items.TheVariants.{Changes}
use Rattle.refutation_check.specs.TreeLines.{two_tree_header}
use Rattle.refutation_check.specs.Verdicts.{IsTwoVerdict}
use Rattle.refutation_check.proofs.Refuting.{verdict_leaves_none}
use Rattle.migrate_cli.specs.ChangesDecision.IsChangesTree.{judged_changes}
use Rattle.migrate_cli.specs.steps.Tables.{NetworkMove, move_of}
use Rattle.migrate_cli.proofs.TableFacts.{two_verdict}
use Rattle.migrate_cli.proofs.changes.refute_changes.Goals as goal

pub returns : goal.returns
returns c =
    let of = c.args.of.now in
    let mixed = c.in_ok-mixed.mixed in
    let mixes = c.in_ok-mixed.ensures in
    let found = c.in_ok-verdict.verdict in
    let text = c.as_slice.result.now in
    let is = subst (λ (t : List ℕ). IsTwoVerdict (move_of of) t found) c.as_slice.ensures
    (subst (λ (m : NetworkMove). IsTwoVerdict (move_of m) text found) c.in_ok-tables.ensures
    (two_verdict c.in_ok-tables.tables mixed mixes text found c.in_ok-verdict.ensures.verdict)) in
    judged_changes found (subst IsNetwork (mixes.net_is ∙ ap (λ (m : NetworkMove). m.net) c.in_ok-tables.ensures) c.verify_two.ensures.network) is
    (verdict_leaves_none Changes (move_of of) (λ u. refl) two_tree_header c.args.tree.now found is)
