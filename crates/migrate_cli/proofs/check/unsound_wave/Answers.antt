use Rattle.std.proofs.Common.{arith}
use Rattle.std.proofs.lemmas.Grind.{common_steps}
use Rattle.migrate_cli.proofs.check.unsound_wave.Goals as goal

pub waves_fault-requires : goal.waves_fault-requires
waves_fault-requires c = grind (arith, common_steps)

pub returns-in-None : goal.returns-in-None
returns-in-None c = grind (arith, common_steps)

pub returns-in_ok-fault-in-Some : goal.returns-in_ok-fault-in-Some
returns-in_ok-fault-in-Some c = grind (arith, common_steps)
