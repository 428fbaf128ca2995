-- A kept zone that another network's segments are those of.
use Rattle.std.specs.Prelude.{◌≡◌, ℕ, List, length}
use Rattle.walk_core.specs.declared.segment.Port.{Port}
use Rattle.zone_graph.specs.declared.known_walks.KnownZone.{KnownZone}

-- these are the segments of a kept zone, and its walks are those from this many routers
pub record IsOverThese (kept : KnownZone) (routers : ℕ) (segments : List (List Port)) : Type 0 where
  pub count : length kept.walks.value ≡ routers
  pub same : kept.segments.items ≡ segments
