use Rattle.std.proofs.Common.{arith}
use Rattle.std.proofs.lemmas.Grind.{common_steps}
use Rattle.migrate_cli.proofs.check.judge_order.Goals as goal

pub judge_mixed_order-decision-requires : goal.judge_mixed_order-decision-requires
judge_mixed_order-decision-requires c = grind (arith, common_steps)

pub returns : goal.returns
returns c = c.judge_mixed_order-decision.ensures c.args.tables.now c.in_ok-mixed.ensures
