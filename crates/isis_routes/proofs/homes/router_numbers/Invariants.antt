use Rattle.std.proofs.Common.{take, ℕ}
use Rattle.std.specs.List.{Any}
use Rattle.route_tables.specs.Lists.{Adds}
use Rattle.isis_routes.specs.steps.Homes.{IsHomeOf}
use Rattle.isis_routes.specs.declared.homes.Home.{Home}
use Rattle.isis_routes.proofs.homes.router_numbers.Given as goal

abbrev pub invariant-loop-home : goal.invariant-loop-home
invariant-loop-home l =
    Adds l.initial.routers.items l.routers.items
    (λ (u : ℕ). Any (λ (h : Home). IsHomeOf l.dest h u) (take l.home-index l.homes))
