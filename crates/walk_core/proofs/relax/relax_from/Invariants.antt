use Rattle.std.proofs.Common.{◌≡◌, ◌+◌, ◌<◌, ℕ, Some}
use Rattle.std.specs.Bool.{OnFalse}
use Rattle.walk_core.specs.Distances.{distance_at}
use Rattle.walk_core.specs.steps.Relaxing.{IsAtMost, Relaxes}
use Rattle.walk_core.proofs.relax.relax_from.Given as goal

abbrev pub invariant-loop-i : goal.invariant-loop-i
invariant-loop-i g l = record {
  relaxes : Relaxes (g.G.CostGraph.has_arc l.graph) l.initial.distances l.distances l.fell;
  near_is : distance_at l.distances l.u ≡ Some l.near;
  tight : OnFalse l.fell ((j : ℕ) → j < l.i → IsAtMost (distance_at l.distances (g.G.CostGraph.arc_at l.graph l.u j).0)
      (l.near + (g.G.CostGraph.arc_at l.graph l.u j).1));
}
