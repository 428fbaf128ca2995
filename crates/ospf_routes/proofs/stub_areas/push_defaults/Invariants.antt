use Rattle.std.proofs.Common.{ℕ, take}
use Rattle.std.specs.List.{Any}
use Rattle.walk_core.specs.declared.offers.Offer.{Offer}
use Rattle.ospf_routes.specs.Lists.{Adds}
use Rattle.ospf_routes.specs.steps.Summarized.{RouterDefault}
use Rattle.ospf_routes.proofs.stub_areas.push_defaults.Given as goal

abbrev pub invariant-loop-b : goal.invariant-loop-b
invariant-loop-b l = Adds l.initial.offers.items l.offers.items
    (λ (o : Offer). Any (λ (b : ℕ). RouterDefault l.domain.net l.area.number b o) (take l.b-index l.b-items))
