use Rattle.std.proofs.Common.{arith}
use Rattle.std.proofs.lemmas.Grind.{common_steps}
use Rattle.step_scripts.proofs.NamesOnLines.{bytes_all, named_more, unknown_at}
use Rattle.step_scripts.proofs.waves_reading.routers_of.Goals as goal

pub returns-in_default : goal.returns-in_default
returns-in_default c = unknown_at c.args.net.now c.args.names.now c.loop-name.name-index _ c.loop-name-test.true c.in_default.ensures.number

pub loop-name-preserved : goal.loop-name-preserved
loop-name-preserved c = grind (arith, common_steps, bytes_all, named_more)
