use Rattle.std.proofs.Common.{◌∙◌, ap, arith}
use Rattle.std.specs.List.{Any}
use Rattle.net_model.specs.Configuration.{Configuration}
use Rattle.net_model.specs.declared.interface.Interface.{Interface}
use Rattle.route_tables.proofs.ListFacts.{below_step, adds_same, exactly_below}
use Rattle.ospf_routes.proofs.SubnetFacts.{RouterSubnet, router_subnet_is, subnet_below}
use Rattle.ospf_routes.specs.steps.Subnets.{IsInterfaceSubnet, IsUpSubnet}
use Rattle.ospf_routes.specs.declared.subnets.Subnet.{Subnet}
use Rattle.ospf_routes.proofs.subnets.all_subnets.Goals as goal

pub loop-w-preserved : goal.loop-w-preserved
loop-w-preserved c =
    let net = c.args.net.now in
    below_step (RouterSubnet net) c.new-all.result.items c.loop-w.all.items c.push_router_subnets.new.all.items c.loop-w.w c.loop-w.invariant
    (adds_same c.loop-w.all.items c.push_router_subnets.new.all.items
    (λ (s : Subnet). Any (λ (i : Interface). IsInterfaceSubnet c.loop-w.w i s) c.as_slice.result.now) (RouterSubnet net c.loop-w.w)
    c.in_ok-push_router_subnets.ensures
    (router_subnet_is net c.loop-w.w c.config.result.now c.as_slice.result.now c.config.ensures.router
    (c.as_slice.ensures ∙ ap (λ (d : Configuration). d.interfaces) c.behind-net.view_is)))

pub returns : goal.returns
returns c =
    exactly_below (RouterSubnet c.args.net.now) (IsUpSubnet c.args.net.now) c.new-all.result.items c.loop-w.all.items c.loop-w.w c.new-all.ensures.items
    c.loop-w.invariant (subnet_below c.args.net.now c.loop-w.w (omega (arith, c.routers-w-end.ensures.count))) (λ w s both. both.1)
