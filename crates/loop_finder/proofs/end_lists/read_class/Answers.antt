use Rattle.std.proofs.lemmas.Grind.{common_steps}
use Rattle.std.proofs.Common.{arith}
use Rattle.std.proofs.lemmas.List.{take_all, take_more}
use Rattle.loop_finder.proofs.PartRows.{reads_next}
use Rattle.loop_finder.proofs.end_lists.read_class.Goals as goal

pub loop-router-init : goal.loop-router-init
loop-router-init g c = grind (arith, common_steps)

pub read_router-requires-clause-router : goal.read_router-requires-clause-router
read_router-requires-clause-router g c = c.requires.routers c.loop-router.router-index 0 c.loop-router-test.true

pub loop-router-preserved : goal.loop-router-preserved
loop-router-preserved g c = grind (arith, common_steps, reads_next, take_more)

pub returns-clause-reads : goal.returns-clause-reads
returns-clause-reads g c = grind (arith, common_steps, take_all)
