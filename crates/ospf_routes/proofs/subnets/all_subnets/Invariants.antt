use Rattle.ospf_routes.specs.Lists.{Adds}
use Rattle.route_tables.proofs.ListFacts.{AnyBelow}
use Rattle.ospf_routes.proofs.SubnetFacts.{RouterSubnet}
use Rattle.ospf_routes.proofs.subnets.all_subnets.Given as goal

abbrev pub invariant-loop-w : goal.invariant-loop-w
invariant-loop-w l = Adds l.initial.all.items l.all.items (AnyBelow (RouterSubnet l.net) l.w)
