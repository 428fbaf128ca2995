use Rattle.std.proofs.lemmas.Grind.{common_steps}
use Rattle.std.proofs.Common.{arith, subst}
use Rattle.migrate_cli.specs.ChangesDecision.{IsChangesDecision}
use Rattle.migrate_cli.specs.steps.Tables.{NetworkMove, move_of}
use Rattle.migrate_cli.proofs.changes.judge_changes.Goals as goal

pub judge_mixed_changes-requires-clause-few : goal.judge_mixed_changes-requires-clause-few
judge_mixed_changes-requires-clause-few c = grind (arith, common_steps)

pub judge_mixed_changes-requires-clause-waves : goal.judge_mixed_changes-requires-clause-waves
judge_mixed_changes-requires-clause-waves c = grind (arith, common_steps)

pub returns : goal.returns
returns c =
    subst (λ (of : NetworkMove). IsChangesDecision (move_of of) c.args.waves.now c.in_ok-decision.decision) c.in_ok-tables.ensures
    (c.in_ok-decision.ensures c.in_ok-tables.tables c.in_ok-mixed.ensures)
