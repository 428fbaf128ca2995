use Rattle.std.proofs.lemmas.Grind.{common_steps}
use Rattle.std.proofs.Common.{arith}
use Rattle.std.proofs.lemmas.Result.{IfOk-weaker}
use Rattle.migrate_cli.proofs.NightReading.{names_each, night_outcome, own_short, own_two, parts, two_named, two_texts}
use Rattle.migrate_cli.proofs.observing.judge_observe.Goals as goal

pub split_at-requires : goal.split_at-requires
split_at-requires c = grind (arith, common_steps, two_texts)

pub first_own-requires-clause-some : goal.first_own-requires-clause-some
first_own-requires-clause-some c = grind (arith, common_steps, two_named)

pub first_own-requires-clause-texts : goal.first_own-requires-clause-texts
first_own-requires-clause-texts c = grind (arith, common_steps, own_two)

pub second_own-requires-clause-some : goal.second_own-requires-clause-some
second_own-requires-clause-some c = grind (arith, common_steps, two_named)

pub second_own-requires-clause-texts : goal.second_own-requires-clause-texts
second_own-requires-clause-texts c = grind (arith, common_steps, own_two)

pub judge_night-requires-clause-order : goal.judge_night-requires-clause-order
judge_night-requires-clause-order c = grind (arith, common_steps, own_short)

pub judge_night-requires-clause-before : goal.judge_night-requires-clause-before
judge_night-requires-clause-before c = grind (arith, common_steps, own_short)

pub judge_night-requires-clause-each : goal.judge_night-requires-clause-each
judge_night-requires-clause-each c =
    names_each c.args.command.now c.args.texts.now c.requires.kind c.requires.range c.requires.short c.split_at.result.0.now
    c.split_at.result.1.now c.split_at.ensures.front c.split_at.ensures.back c.as_slice.result.now c.as_slice.ensures

pub judge_night-requires-clause-short : goal.judge_night-requires-clause-short
judge_night-requires-clause-short c =
    (parts c.args.command.now c.args.texts.now c.requires.kind c.requires.range c.requires.short c.split_at.result.0.now
    c.split_at.result.1.now c.split_at.ensures.front c.split_at.ensures.back).configs_short

pub returns : goal.returns
returns c = grind (arith, common_steps, IfOk-weaker, night_outcome)
