use Rattle.loop_finder.proofs.Peeling.{IsStripped}
use Rattle.loop_finder.proofs.live.peel_back.Given as goal

abbrev pub invariant-loop-place : goal.invariant-loop-place
invariant-loop-place g l = IsStripped (g.G.StepGraph.step l.graph) l.initial.live l.live
