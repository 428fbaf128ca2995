use Rattle.std.proofs.Common.{◌≡◌, ℕ, take}
use Rattle.std.specs.List.{Any}
use Rattle.walk_core.specs.declared.offers.Offer.{Offer}
use Rattle.ospf_routes.specs.Lists.{Adds}
use Rattle.ospf_routes.specs.steps.Summarized.{IsPassedOn}
use Rattle.ospf_routes.proofs.backbone_routes.push_reached.Given as goal

abbrev pub invariant-loop-b : goal.invariant-loop-b
invariant-loop-b l =
    Adds l.initial.offers.items l.offers.items
    (λ (o : Offer). Any (λ (b : ℕ). (o.at ≡ b) × IsPassedOn l.boundary.domain.now.net l.area.number l.leaving.destination.now.dest o)
    (take l.b-index l.b-items))
