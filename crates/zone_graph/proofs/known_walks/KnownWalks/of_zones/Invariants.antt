use Rattle.std.proofs.Common.{take, All}
use Rattle.zone_graph.specs.KnownWalks.{IsKnownZone, KnowsZone}
use Rattle.zone_graph.proofs.known_walks.KnownWalks.of_zones.Given as goal

abbrev pub invariant-loop-zone : goal.invariant-loop-zone
invariant-loop-zone l = All IsKnownZone l.known.items × All (KnowsZone l.net l.known.items) (take l.zone-index l.zones)
