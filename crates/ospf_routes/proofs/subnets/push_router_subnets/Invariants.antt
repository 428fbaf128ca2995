use Rattle.std.proofs.Common.{take}
use Rattle.std.specs.List.{Any}
use Rattle.net_model.specs.declared.interface.Interface.{Interface}
use Rattle.ospf_routes.specs.Lists.{Adds}
use Rattle.ospf_routes.specs.steps.Subnets.{IsInterfaceSubnet}
use Rattle.ospf_routes.specs.declared.subnets.Subnet.{Subnet}
use Rattle.ospf_routes.proofs.subnets.push_router_subnets.Given as goal

abbrev pub invariant-loop-interface : goal.invariant-loop-interface
invariant-loop-interface l = Adds l.initial.all.items l.all.items
    (λ (s : Subnet). Any (λ (i : Interface). IsInterfaceSubnet l.w i s) (take l.interface-index l.interfaces))
