use Rattle.std.proofs.Common.{arith}
use Rattle.loop_finder.proofs.Reaching.{AreReached-none, never_returns}
use Rattle.loop_finder.proofs.returns.may_return.Goals as goal

pub reach_hops-requires-clause-reached : goal.reach_hops-requires-clause-reached
reach_hops-requires-clause-reached g c = AreReached-none c.args.router c.mark_none.new.marks c.clear.new.self.items c.mark_none.ensures c.clear.ensures.items

pub returns-clause-never : goal.returns-clause-never
returns-clause-never g c =
    never_returns (g.G.StepGraph.step c.args.graph.now) (g.G.StepGraph.size c.args.graph.now) c.args.router c.loop-place.seen c.loop-place.reached.items
    c.loop-place.place c.requires.router c.loop-place.invariant.many c.requires.inside c.loop-place.invariant.reached
    (omega (arith, c.loop-place-test.false, c.len.ensures, c.loop-place.reached.ok.0)) c.loop-place.invariant.first c.loop-place.invariant.spread
