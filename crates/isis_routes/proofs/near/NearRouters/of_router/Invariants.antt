use Rattle.std.proofs.Common.{ℕ, take}
use Rattle.std.specs.List.{Any}
use Rattle.route_tables.specs.Lists.{Adds}
use Rattle.isis_routes.specs.steps.Near.{IsNear}
use Rattle.isis_routes.proofs.near.NearRouters.of_router.Given as goal

abbrev pub invariant-loop-router : goal.invariant-loop-router
invariant-loop-router l =
    Adds l.initial.routers.items l.routers.items (λ (u : ℕ). Any (λ (b : ℕ). IsNear l.domain.net l.to b u) (take l.router-index l.router-items))
