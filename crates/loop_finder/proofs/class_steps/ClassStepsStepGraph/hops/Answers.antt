use Rattle.std.proofs.Common.{arith}
use Rattle.std.proofs.lemmas.Grind.{common_steps}
use Rattle.loop_finder.specs.steps.ClassSteps.{state_over}
use Rattle.loop_finder.proofs.ClassFacts.{steps_of_both, steps_of_one}
use Rattle.loop_finder.proofs.class_steps.ClassStepsStepGraph.hops.Goals as goal

pub returns-then-eq : goal.returns-then-eq
returns-then-eq g c = steps_of_one (state_over g.O.RouteSource.table g.N.RouteSource.table c.args.self.now) c.args.router c.first_phase-first.result
    c.last_phase-last.result c.hops_in-hops.result.now c.first_phase-first.ensures c.last_phase-last.ensures
    (grind (arith, common_steps)) c.hops_in-hops.ensures

pub returns : goal.returns
returns g c = steps_of_both (state_over g.O.RouteSource.table g.N.RouteSource.table c.args.self.now) c.args.router c.first_phase-first.result
    c.last_phase-last.result c.hops_in-hops.result.now c.hops_in.result.now c.first_phase-first.ensures c.last_phase-last.ensures c.hops_in-hops.ensures
    c.hops_in.ensures
