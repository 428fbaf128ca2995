use Rattle.net_model.specs.declared.interface.Interface.{Interface}
use Rattle.route_tables.proofs.ListFacts.{adds_step, adds_end}
use Rattle.ospf_routes.specs.steps.Subnets.{IsInterfaceSubnet}
use Rattle.ospf_routes.specs.declared.subnets.Subnet.{Subnet}
use Rattle.ospf_routes.proofs.subnets.push_router_subnets.Goals as goal

pub loop-interface-preserved : goal.loop-interface-preserved
loop-interface-preserved c =
    adds_step (λ (s : Subnet) (i : Interface). IsInterfaceSubnet c.args.w i s)
    c.args.all.now.items c.loop-interface.all.items c.push_option.new.all.items c.args.interfaces.now c.loop-interface.interface-index
    c.interface-item.result c.interface_subnet.result c.loop-interface-test.true c.interface-item.is c.loop-interface.invariant
    c.in_ok-push_option.ensures.ok c.interface_subnet.ensures

pub returns : goal.returns
returns c =
    adds_end (λ (s : Subnet) (i : Interface). IsInterfaceSubnet c.args.w i s)
    c.args.all.now.items c.loop-interface.all.items c.args.interfaces.now c.loop-interface.interface-index c.loop-interface-test.false
    c.loop-interface.invariant
