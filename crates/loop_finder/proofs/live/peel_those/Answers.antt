use Rattle.std.proofs.Common.{get_or, arith}
use Rattle.loop_finder.proofs.Peeling.{IsStripped-by}
use Rattle.loop_finder.proofs.live.peel_those.Goals as goal

pub loop-router-preserved : goal.loop-router-preserved
loop-router-preserved g c =
    IsStripped-by (g.G.StepGraph.step c.args.graph.now) c.args.live.now c.loop-router.live c.peel_one-peeled.new.live
    (get_or c.args.routers.now c.loop-router.router-index 0) c.peel_one-peeled.result
    (omega (arith, c.requires.below c.loop-router.router-index 0 c.loop-router-test.true, c.requires.size, c.loop-router.auto.live))
    c.peel_one-peeled.ensures.same c.peel_one-peeled.ensures.taken c.peel_one-peeled.ensures.marked c.peel_one-peeled.ensures.stuck
    c.loop-router.invariant
