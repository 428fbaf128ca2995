use Rattle.std.proofs.Common.{◌<◌, ◌+◌, ℕ, List, None, get_or}
use Rattle.walk_core.specs.declared.outlets.Outlet.{Outlet}
use Rattle.walk_core.specs.steps.Flooding.{AreAllAtMost, Lowers, segment_at}
use Rattle.walk_core.specs.steps.Floods.{IsFlood, marked_in}
use Rattle.walk_core.specs.steps.Relaxing.{Fall}
use Rattle.walk_core.specs.Segments.{Sends}
use Rattle.walk_core.proofs.flood.spread_from.Given as goal

-- the outlet of this place
abbrev pub outlet_at : List Outlet → ℕ → Outlet
outlet_at outlets j = get_or outlets j (record { place = 0; cost = 0; to = None })

abbrev pub invariant-loop-outlet : goal.invariant-loop-outlet
invariant-loop-outlet l = record {
  flood : IsFlood l.graph l.flood;
  falls : Fall (Sends l.graph.segments) l.initial.flood.distances.items l.flood.distances.items;
  lowers : Lowers l.near (marked_in l.initial.flood) (marked_in l.flood);
  reached : (j : ℕ) → j < l.outlet-index →
      AreAllAtMost l.flood.distances.items (segment_at l.graph.segments (outlet_at l.ports j).place) (l.near + (outlet_at l.ports j).cost);
}
