use Rattle.std.proofs.Common.{List, ℕ, sym, subst}
use Rattle.route_tables.specs.Lists.{Exactly}
use Rattle.isis_routes.specs.steps.Routing.{RunsBothLevels}
use Rattle.isis_routes.proofs.domain.Domain.build.Goals as goal

pub attached_routers-requires-clause-both : goal.attached_routers-requires-clause-both
attached_routers-requires-clause-both c =
    subst (λ (l : List ℕ). Exactly (RunsBothLevels c.args.net.now) l) (sym c.as_slice.ensures.value) c.in_ok-both.ensures.routers
