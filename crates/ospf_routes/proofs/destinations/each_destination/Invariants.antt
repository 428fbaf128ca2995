use Rattle.std.proofs.Common.{◌≡◌, take}
use Rattle.std.specs.List.{All}
use Rattle.ospf_routes.specs.steps.Destinations.{IsDestinationIn, ospf_prefixes}
use Rattle.ospf_routes.proofs.destinations.each_destination.Given as goal

abbrev pub invariant-loop-dest : goal.invariant-loop-dest
invariant-loop-dest l = record {
  dests : ospf_prefixes l.all.items ≡ take l.dest-index l.dests;
  each : All (IsDestinationIn l.domain) l.all.items;
}
