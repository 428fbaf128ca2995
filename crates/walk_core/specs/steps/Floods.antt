-- A flood over a graph of segments, as far as it has come.
use Rattle.std.specs.Prelude.{◌≡◌, length}
use Rattle.walk_core.specs.declared.flood.Flood.{Flood}
use Rattle.walk_core.specs.steps.Flooding.{AreEntered, Marked}
use Rattle.walk_core.specs.steps.Relaxing.{HaveRoom}
use Rattle.walk_core.specs.steps.SegmentWalks.{IsJoined, Joined}

-- the distances of a flood, and its marks
abbrev pub marked_in : Flood → Marked
marked_in flood = record { distances = flood.distances.items; stale = flood.stale.items }

-- distances leave room for one arc more, each vertex has a mark, and no vertex of a segment is farther than it was entered at
pub record IsFlood (graph : Joined) (flood : Flood) : Type 0 where
  pub joined : IsJoined graph
  pub long : length flood.distances.items ≡ graph.count
  pub marks : length flood.stale.items ≡ graph.count
  pub room : HaveRoom flood.distances.items
  pub entered : AreEntered graph.segments flood.distances.items flood.entries.items

-- room for the floods over a graph: a mark for each vertex, and an entry for each segment
pub record IsRoom (graph : Joined) (flood : Flood) : Type 0 where
  pub marks : length flood.stale.items ≡ graph.count
  pub entries : length flood.entries.items ≡ length graph.segments
