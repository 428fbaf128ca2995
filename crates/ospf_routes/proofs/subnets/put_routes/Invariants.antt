use Rattle.std.proofs.Common.{take}
use Rattle.std.specs.List.{Any}
use Rattle.ospf_routes.specs.Lists.{Adds}
use Rattle.ospf_routes.specs.steps.Subnets.{IsSubnetRoute}
use Rattle.ospf_routes.specs.declared.area_route.AreaRoute.{AreaRoute}
use Rattle.ospf_routes.proofs.subnets.put_routes.Given as goal

abbrev pub invariant-loop-subnet : goal.invariant-loop-subnet
invariant-loop-subnet l = Adds l.initial.routes.items l.routes.items (λ (x : AreaRoute). Any (IsSubnetRoute l.dest x) (take l.subnet-index l.subnets))
