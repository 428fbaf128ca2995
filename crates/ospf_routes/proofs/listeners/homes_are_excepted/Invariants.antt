use Rattle.std.proofs.Common.{◌≡◌, ℕ, None, Some, get_or}
use Rattle.std.specs.List.{AllWithin}
use Rattle.ospf_routes.specs.steps.Lanes.{Excepts}
use Rattle.ospf_routes.proofs.listeners.homes_are_excepted.Given as goal

abbrev pub invariant-loop-home : goal.invariant-loop-home
invariant-loop-home l =
    AllWithin (λ (u : ℕ). get_or l.listeners.listens.now u None ≡ Some l.listeners.zone → Excepts l.decision u) l.homes 0
    l.home-index
