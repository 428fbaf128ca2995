use Rattle.loop_finder.proofs.OnFalse.{on_false}
use Rattle.loop_finder.proofs.Reaching.{ReachesMore-then}
use Rattle.loop_finder.proofs.returns.reach_hops.Goals as goal

pub returns-clause-more : goal.returns-clause-more
returns-clause-more g c = on_false c.reach-2.result c.reach-2.ensures.more (λ more. ReachesMore-then _ _ _ _ _ _ c.if-reach.ensures.more more)
