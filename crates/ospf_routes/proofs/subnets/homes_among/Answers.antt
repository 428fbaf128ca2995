use Rattle.std.proofs.Common.{ℕ, List, subst, sym}
use Rattle.std.specs.List.{Any}
use Rattle.ospf_routes.specs.Lists.{Exactly}
use Rattle.ospf_routes.specs.steps.Subnets.{IsHome}
use Rattle.ospf_routes.proofs.subnets.homes_among.Goals as goal

pub returns-in_ok-homes-in_default : goal.returns-in_ok-homes-in_default
returns-in_ok-homes-in_default c =
    subst (λ (l : List ℕ). Exactly (λ (u : ℕ). Any (IsHome c.args.dest u) c.args.subnets.now) l)
    (sym c.from_vec.ensures) c.in_ok-homes-in_default.ensures
