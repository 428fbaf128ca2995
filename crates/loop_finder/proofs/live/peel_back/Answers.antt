use Rattle.std.proofs.Common.{◌-◌, get_or, length, arith}
use Rattle.loop_finder.proofs.Peeling.{IsStripped-by}
use Rattle.loop_finder.proofs.live.peel_back.Goals as goal

pub loop-place-preserved : goal.loop-place-preserved
loop-place-preserved g c = IsStripped-by (g.G.StepGraph.step c.args.graph.now) c.args.live.now c.loop-place.live c.peel_one.new.live
    (get_or c.args.routers.now (length c.args.routers.now - 1 - c.loop-place.place) 0) c.peel_one.result
    (omega (
      arith,
      c.requires.below (length c.args.routers.now - 1 - c.loop-place.place) 0 (omega (arith, c.loop-place-test.true)),
      c.requires.size,
      c.loop-place.auto.live,
    )) c.peel_one.ensures.same c.peel_one.ensures.taken c.peel_one.ensures.marked c.peel_one.ensures.stuck c.loop-place.invariant
