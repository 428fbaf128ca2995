use Rattle.std.proofs.Common.{ℕ, List, subst, sym}
use Rattle.std.specs.List.{Any}
use Rattle.route_tables.specs.Lists.{Exactly}
use Rattle.isis_routes.specs.steps.Homes.{IsHomeOf}
use Rattle.isis_routes.specs.declared.homes.Home.{Home}
use Rattle.isis_routes.proofs.homes.routers_among.Goals as goal

pub returns-in_ok-routers-in_default : goal.returns-in_ok-routers-in_default
returns-in_ok-routers-in_default c =
    subst (λ (l : List ℕ). Exactly (λ (u : ℕ). Any (λ (h : Home). IsHomeOf c.args.dest h u) c.args.homes.now) l)
    (sym c.from_vec.ensures) c.in_ok-routers-in_default.ensures
