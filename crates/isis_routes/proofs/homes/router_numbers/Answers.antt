use Rattle.std.proofs.Common.{ℕ}
use Rattle.route_tables.proofs.ListFacts.{adds_step, exactly_added, adds_end}
use Rattle.isis_routes.specs.steps.Homes.{IsHomeOf}
use Rattle.isis_routes.specs.declared.homes.Home.{Home}
use Rattle.isis_routes.proofs.homes.router_numbers.Goals as goal

pub loop-home-preserved : goal.loop-home-preserved
loop-home-preserved c =
    adds_step (λ (u : ℕ) (h : Home). IsHomeOf c.args.dest h u)
    c.in_ok-routers.routers.items c.loop-home.routers.items c.push_option.new.all.items c.args.homes.now
    c.loop-home.home-index c.home-item.result c.router_at.result c.loop-home-test.true c.home-item.is c.loop-home.invariant
    c.in_ok-push_option.ensures.ok c.router_at.ensures

pub returns : goal.returns
returns c =
    exactly_added c.in_ok-routers.routers.items c.loop-home.routers.items _ c.in_ok-routers.ensures.items
    (adds_end (λ (u : ℕ) (h : Home). IsHomeOf c.args.dest h u) c.in_ok-routers.routers.items c.loop-home.routers.items
    c.args.homes.now c.loop-home.home-index c.loop-home-test.false c.loop-home.invariant)
