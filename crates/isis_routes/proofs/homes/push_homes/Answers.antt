use Rattle.net_model.specs.declared.interface.Interface.{Interface}
use Rattle.route_tables.proofs.ListFacts.{adds_step, adds_end}
use Rattle.isis_routes.specs.steps.Homes.{IsOwnSubnet}
use Rattle.isis_routes.specs.declared.homes.Home.{Home}
use Rattle.isis_routes.proofs.homes.push_homes.Goals as goal

pub loop-interface-preserved : goal.loop-interface-preserved
loop-interface-preserved c =
    adds_step (λ (h : Home) (i : Interface). IsOwnSubnet i c.args.w h)
    c.args.homes.now.items c.loop-interface.homes.items c.push_option.new.all.items c.args.interfaces.now c.loop-interface.interface-index
    c.interface-item.result c.home_of.result c.loop-interface-test.true c.interface-item.is c.loop-interface.invariant c.in_ok-push_option.ensures.ok
    c.home_of.ensures

pub returns : goal.returns
returns c =
    adds_end (λ (h : Home) (i : Interface). IsOwnSubnet i c.args.w h)
    c.args.homes.now.items c.loop-interface.homes.items c.args.interfaces.now c.loop-interface.interface-index c.loop-interface-test.false
    c.loop-interface.invariant
