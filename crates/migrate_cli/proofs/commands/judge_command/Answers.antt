use Rattle.std.proofs.lemmas.Grind.{common_steps}
use Rattle.std.proofs.Common.{arith}
use Rattle.std.proofs.lemmas.Result.{IfOk-weaker}
use Rattle.migrate_cli.proofs.CommandFacts.{one_own, place_short, text_count, two_own}
use Rattle.migrate_cli.proofs.StopFacts.{element}
use Rattle.migrate_cli.proofs.commands.judge_command.Goals as goal

pub first_own-requires-clause-texts : goal.first_own-requires-clause-texts
first_own-requires-clause-texts c = grind (arith, common_steps, text_count)

pub first_own-requires-in-Prepare-clause-texts : goal.first_own-requires-in-Prepare-clause-texts
first_own-requires-in-Prepare-clause-texts c = grind (arith, common_steps, text_count)

pub first_own-requires-in-Scripts-clause-texts : goal.first_own-requires-in-Scripts-clause-texts
first_own-requires-in-Scripts-clause-texts c = grind (arith, common_steps, text_count)

pub first_own-requires-in-Replay-clause-texts : goal.first_own-requires-in-Replay-clause-texts
first_own-requires-in-Replay-clause-texts c = grind (arith, common_steps, text_count)

pub first_own-requires-in-Split-clause-texts : goal.first_own-requires-in-Split-clause-texts
first_own-requires-in-Split-clause-texts c = grind (arith, common_steps, text_count)

pub first_own-requires-in-Delta-clause-texts : goal.first_own-requires-in-Delta-clause-texts
first_own-requires-in-Delta-clause-texts c = grind (arith, common_steps, text_count)

pub first_own-requires-in-Why-clause-texts : goal.first_own-requires-in-Why-clause-texts
first_own-requires-in-Why-clause-texts c = grind (arith, common_steps, text_count)

pub first_own-requires-in-Rollback-clause-texts : goal.first_own-requires-in-Rollback-clause-texts
first_own-requires-in-Rollback-clause-texts c = grind (arith, common_steps, text_count)

pub first_own-requires-in-Replan-clause-texts : goal.first_own-requires-in-Replan-clause-texts
first_own-requires-in-Replan-clause-texts c = grind (arith, common_steps, text_count)

pub first_own-requires-in-Picture-clause-texts : goal.first_own-requires-in-Picture-clause-texts
first_own-requires-in-Picture-clause-texts c = grind (arith, common_steps, text_count)

pub bounds-own-0 : goal.bounds-own-0
bounds-own-0 c = grind (arith, common_steps, text_count)

pub bounds-own-1 : goal.bounds-own-1
bounds-own-1 c = grind (arith, common_steps, text_count)

pub bounds-own-1-in-Rollback : goal.bounds-own-1-in-Rollback
bounds-own-1-in-Rollback c = grind (arith, common_steps, text_count)

pub bounds-own-1-in-Replan : goal.bounds-own-1-in-Replan
bounds-own-1-in-Replan c = grind (arith, common_steps, text_count)

pub judge_refute-requires : goal.judge_refute-requires
judge_refute-requires c = grind (arith, common_steps, place_short, text_count)

pub returns-in-Refute : goal.returns-in-Refute
returns-in-Refute c = grind (arith, common_steps, IfOk-weaker, element, one_own, text_count)

pub returns-in-Replay : goal.returns-in-Replay
returns-in-Replay c = grind (arith, common_steps, IfOk-weaker, element, text_count, two_own)

pub returns-in-Rollback : goal.returns-in-Rollback
returns-in-Rollback c = grind (arith, common_steps, IfOk-weaker, element, text_count, two_own)

pub returns-in-Replan : goal.returns-in-Replan
returns-in-Replan c = grind (arith, common_steps, IfOk-weaker, element, text_count, two_own)
