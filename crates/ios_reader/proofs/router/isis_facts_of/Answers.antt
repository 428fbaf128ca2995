use Rattle.std.proofs.Common.{arith}
use Rattle.std.proofs.lemmas.Grind.{common_steps}
use Rattle.ios_reader.proofs.ProcessLookups.{isis_facts_more}
use Rattle.ios_reader.proofs.router.isis_facts_of.Goals as goal

pub loop-statement-preserved : goal.loop-statement-preserved
loop-statement-preserved c = grind (arith, common_steps, isis_facts_more)
