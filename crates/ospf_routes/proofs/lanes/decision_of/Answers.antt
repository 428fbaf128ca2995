use Rattle.std.proofs.Common.{◌≡◌, ℕ, inr, subst}
use Rattle.std.specs.List.{All, Any}
use Rattle.std.proofs.lemmas.List.Elements.{All-contains}
use Rattle.walk_core.specs.declared.offers.Offer.{Offer}
use Rattle.ospf_routes.specs.steps.Lanes.{IsInner}
use Rattle.ospf_routes.proofs.lanes.decision_of.Goals as goal

pub returns-then-are_told-clause-told : goal.returns-then-are_told-clause-told
returns-then-are_told-clause-told c = λ u has inner.
    let Told : ℕ → Type 0 = λ v. IsInner c.args.domain.now.net c.args.listens.now c.args.zone v → Any (λ (o : Offer). o.at ≡ v) c.args.offers.now in
    inr (All-contains Told c.args.destination.now.homes.items u
    (subst (All Told) c.as_slice.ensures.value (c.are_told.ensures c.if-are_told.true)) has inner)
