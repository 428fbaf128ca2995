use Rattle.std.proofs.Common.{take}
use Rattle.std.specs.List.{Any}
use Rattle.net_model.specs.declared.interface.Interface.{Interface}
use Rattle.route_tables.specs.Lists.{Adds}
use Rattle.isis_routes.specs.steps.Homes.{IsOwnSubnet}
use Rattle.isis_routes.specs.declared.homes.Home.{Home}
use Rattle.isis_routes.proofs.homes.push_homes.Given as goal

abbrev pub invariant-loop-interface : goal.invariant-loop-interface
invariant-loop-interface l = Adds l.initial.homes.items l.homes.items
    (λ (h : Home). Any (λ (i : Interface). IsOwnSubnet i l.w h) (take l.interface-index l.interfaces))
