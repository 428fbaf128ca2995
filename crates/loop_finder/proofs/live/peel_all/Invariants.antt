use Rattle.loop_finder.specs.steps.Live.{AreBounded}
use Rattle.loop_finder.proofs.live.peel_all.Given as goal

abbrev pub invariant-loop : goal.invariant-loop
invariant-loop g l = AreBounded (g.G.StepGraph.step l.graph) l.live
