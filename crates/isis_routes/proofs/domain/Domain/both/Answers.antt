use Rattle.std.proofs.Common.{List, ℕ, sym, subst}
use Rattle.route_tables.specs.Lists.{Exactly}
use Rattle.isis_routes.specs.steps.Domain.{IsisDomain}
use Rattle.isis_routes.specs.steps.Routing.{RunsBothLevels}
use Rattle.isis_routes.proofs.domain.Domain.both.Goals as goal

pub returns : goal.returns
returns c =
    subst (λ (d : IsisDomain). Exactly (RunsBothLevels d.net) c.as_slice.result.now) c.self.view_is
    (subst (λ (l : List ℕ). Exactly (RunsBothLevels c.self.inside.net.now) l) (sym c.as_slice.ensures.value) c.self.invariant.both)
