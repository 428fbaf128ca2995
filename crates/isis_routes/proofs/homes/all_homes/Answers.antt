use Rattle.std.proofs.Common.{◌∙◌, ap, arith}
use Rattle.std.specs.List.{Any}
use Rattle.net_model.specs.Configuration.{Configuration}
use Rattle.net_model.specs.Network.{Connected}
use Rattle.net_model.specs.declared.interface.Interface.{Interface}
use Rattle.route_tables.proofs.ListFacts.{below_step, adds_same, exactly_below}
use Rattle.isis_routes.specs.steps.Homes.{IsOwnSubnet}
use Rattle.isis_routes.specs.declared.homes.Home.{Home}
use Rattle.isis_routes.proofs.HomeFacts.{RouterHome, router_home_is, home_below}
use Rattle.isis_routes.proofs.homes.all_homes.Goals as goal

pub loop-w-preserved : goal.loop-w-preserved
loop-w-preserved c =
    below_step (RouterHome c.args.net.now) c.new-homes.result.items c.loop-w.homes.items c.push_homes.new.homes.items c.loop-w.w c.loop-w.invariant
    (adds_same c.loop-w.homes.items c.push_homes.new.homes.items (λ (h : Home). Any (λ (i : Interface). IsOwnSubnet i c.loop-w.w h) c.as_slice.result.now)
    (RouterHome c.args.net.now c.loop-w.w) c.in_ok-push_homes.ensures
    (router_home_is c.args.net.now c.loop-w.w c.config.result.now c.as_slice.result.now c.config.ensures.router
    (c.as_slice.ensures ∙ ap (λ (d : Configuration). d.interfaces) c.behind-net.view_is)))

pub returns : goal.returns
returns c =
    exactly_below (RouterHome c.args.net.now) (λ (h : Home). Connected c.args.net.now h.router h.dest)
    c.new-homes.result.items c.loop-w.homes.items c.loop-w.w c.new-homes.ensures.items c.loop-w.invariant
    (home_below c.args.net.now c.loop-w.w (omega (arith, c.routers-w-end.ensures.count))) (λ w h both. both.1)
