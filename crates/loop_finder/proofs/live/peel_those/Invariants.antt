use Rattle.loop_finder.proofs.Peeling.{IsStripped}
use Rattle.loop_finder.proofs.live.peel_those.Given as goal

abbrev pub invariant-loop-router : goal.invariant-loop-router
invariant-loop-router g l = IsStripped (g.G.StepGraph.step l.graph) l.initial.live l.live
