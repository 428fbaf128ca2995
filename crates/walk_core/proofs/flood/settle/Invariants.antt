use Rattle.std.proofs.Common.{ℕ}
use Rattle.walk_core.specs.steps.Flooding.{AreSettled, IsNextStale, what_is_left}
use Rattle.walk_core.specs.steps.Floods.{IsFlood}
use Rattle.walk_core.specs.steps.Relaxing.{AreWalked}
use Rattle.walk_core.specs.Segments.{Sends}
use Rattle.walk_core.proofs.flood.settle.Given as goal

abbrev pub invariant-loop-u : goal.invariant-loop-u
invariant-loop-u l = record {
  flood : IsFlood l.graph l.flood;
  settled : AreSettled l.graph.segments l.flood.distances.items l.flood.stale.items;
  walked : (root : ℕ) → AreWalked (Sends l.graph.segments) root l.initial.flood.distances.items →
      AreWalked (Sends l.graph.segments) root l.flood.distances.items;
  next : IsNextStale l.flood.stale.items l.u;
}

abbrev pub decreases-loop-u : goal.decreases-loop-u
decreases-loop-u l = what_is_left l.flood.distances.items l.flood.stale.items
