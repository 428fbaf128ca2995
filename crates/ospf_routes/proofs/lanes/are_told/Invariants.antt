use Rattle.std.proofs.Common.{◌≡◌, ℕ}
use Rattle.std.specs.List.{AllWithin, Any}
use Rattle.walk_core.specs.declared.offers.Offer.{Offer}
use Rattle.ospf_routes.specs.steps.Lanes.{IsInner}
use Rattle.ospf_routes.proofs.lanes.are_told.Given as goal

abbrev pub invariant-loop-home : goal.invariant-loop-home
invariant-loop-home l =
    AllWithin (λ (u : ℕ). IsInner l.domain.net l.listens l.zone u → Any (λ (o : Offer). o.at ≡ u) l.offers) l.homes 0 l.home-index
