use Rattle.std.proofs.Common.{◌≤◌, length}
use Rattle.ospf_routes.specs.steps.Destinations.{ospf_prefixes}
use Rattle.ospf_routes.specs.steps.Heard.{AreHeardBelow}
use Rattle.ospf_routes.specs.steps.Siblings.{AreKnownSiblings}
use Rattle.ospf_routes.proofs.originating.all_summaries.Given as goal

abbrev pub invariant-loop-place : goal.invariant-loop-place
invariant-loop-place l = record {
  known : AreKnownSiblings l.boundary.domain.now.net (ospf_prefixes l.destinations) l.place l.room.siblings;
  heard : AreHeardBelow l.boundary.domain.now (ospf_prefixes l.destinations) l.place l.summaries;
  within : l.place ≤ length l.destinations;
}
