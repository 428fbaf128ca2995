use Rattle.std.proofs.Common.{length}
use Rattle.igp_theory.specs.Ospf.{OspfEntry}
use Rattle.route_tables.specs.Entries.{AreAlikePrefixes}
use Rattle.ospf_routes.specs.steps.Destinations.{ospf_prefixes}
use Rattle.ospf_routes.specs.steps.Twins.{AreEarlierBy, AreKnownBelow}
use Rattle.ospf_routes.proofs.twins.all_twins.Given as goal

abbrev pub invariant-loop-place : goal.invariant-loop-place
invariant-loop-place l = record {
  twins : AreEarlierBy (AreAlikePrefixes (length l.domain.net) (OspfEntry l.domain.net)) (ospf_prefixes l.destinations) l.place l.twins.items;
  latest : AreKnownBelow l.place l.latest;
}
