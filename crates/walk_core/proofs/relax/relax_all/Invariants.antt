use Rattle.std.proofs.Common.{◌<◌, ℕ}
use Rattle.std.specs.Bool.{OnFalse}
use Rattle.walk_core.specs.steps.Relaxing.{IsTightFrom, Relaxes}
use Rattle.walk_core.proofs.relax.relax_all.Given as goal

abbrev pub invariant-loop-u : goal.invariant-loop-u
invariant-loop-u g l = record {
  relaxes : Relaxes (g.G.CostGraph.has_arc l.graph) l.initial.distances l.distances l.fell;
  tight : OnFalse l.fell ((v : ℕ) → v < l.u → IsTightFrom (g.G.CostGraph.has_arc l.graph) v l.distances);
}
