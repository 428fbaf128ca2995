use Rattle.std.proofs.Common.{◌≡◌, take, All}
use Rattle.isis_routes.specs.steps.Destinations.{HasAnnouncements, isis_prefixes}
use Rattle.isis_routes.proofs.destinations.each_destination.Given as goal

abbrev pub invariant-loop-dest : goal.invariant-loop-dest
invariant-loop-dest l = record {
  dests : isis_prefixes l.all.items ≡ take l.dest-index l.dests;
  announced : All (HasAnnouncements l.domain.net) l.all.items;
}
