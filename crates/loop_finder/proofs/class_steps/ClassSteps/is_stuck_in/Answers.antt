use Rattle.std.proofs.Common.{refl}
use Rattle.loop_finder.proofs.ClassFacts.{stuck_from, moves_from}
use Rattle.loop_finder.specs.steps.ClassSteps.{state_over}
use Rattle.loop_finder.proofs.class_steps.ClassSteps.is_stuck_in.Goals as goal

pub returns-clause-stuck : goal.returns-clause-stuck
returns-clause-stuck g c = stuck_from (state_over g.O.RouteSource.table g.N.RouteSource.table c.args.self.now) c.args.router c.args.phase c.is_empty.result
    c.hops_in.result.now c.is_empty.ensures (c.if-not-must_forward.ensures.0 refl) c.hops_in.ensures

pub returns-clause-moves : goal.returns-clause-moves
returns-clause-moves g c = moves_from (state_over g.O.RouteSource.table g.N.RouteSource.table c.args.self.now) c.args.router c.args.phase c.is_empty.result
    c.hops_in.result.now c.is_empty.ensures c.hops_in.ensures
