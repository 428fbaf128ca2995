use Rattle.ospf_routes.proofs.IntraFacts.{PartsSoFar}
use Rattle.ospf_routes.proofs.intra_area.area_parts.Given as goal

abbrev pub invariant-loop-route : goal.invariant-loop-route
invariant-loop-route l = PartsSoFar l.routes l.domain.areas l.route-index l.parts.items
