use Rattle.std.proofs.Common.{arith}
use Rattle.std.proofs.lemmas.Grind.{common_steps}
use Rattle.std.proofs.Common.{◌≡◌, ℕ, length, sym}
use Rattle.std.proofs.lemmas.Bool.{eqb-true}
use Rattle.ospf_routes.specs.steps.Summarized.{IsPassedOn}
use Rattle.walk_core.specs.declared.offers.Offer.{Offer}
use Rattle.route_tables.proofs.ListFacts.{adds_at, adds_end, adds_nothing}
use Rattle.ospf_routes.proofs.BorderLists.{inner_at, inner_is_router}
use Rattle.ospf_routes.proofs.SummaryFacts.{no_backbone_cost, reached_of_borders}
use Rattle.ospf_routes.proofs.backbone_routes.push_reached.Goals as goal

pub returns-then-is_empty : goal.returns-then-is_empty
returns-then-is_empty c =
    let net = c.args.boundary.domain.now.net in
    let p = c.args.leaving.destination.now.dest in
    adds_nothing c.args.offers.now.items (IsPassedOn net c.args.area.now.number p) (λ o passed.
    no_backbone_cost net p o.at o.asks c.args.leaving.backbone.now c.requires.leaving.backbone
    (eqb-true (length c.args.leaving.backbone.now) 0 (sym c.if-is_empty.ensures)) passed.costs)

pub reached_offer-offer-requires-clause-border : goal.reached_offer-offer-requires-clause-border
reached_offer-offer-requires-clause-border c = grind (arith, common_steps, inner_at)

pub reached_offer-offer-requires-clause-router : goal.reached_offer-offer-requires-clause-router
reached_offer-offer-requires-clause-router c = grind (arith, common_steps, inner_is_router)

pub loop-b-preserved : goal.loop-b-preserved
loop-b-preserved c =
    let net = c.args.boundary.domain.now.net in
    let given = c.as_slice-b-items.result.now in
    let p = c.args.leaving.destination.now.dest in
    adds_at (λ (o : Offer) (b : ℕ). (o.at ≡ b) × IsPassedOn net c.args.area.now.number p o)
    c.args.offers.now.items c.loop-b.offers.items c.push_option.new.all.items given c.loop-b.b-index 0
    c.reached_offer-offer.result c.loop-b-test.true c.loop-b.invariant c.in_ok-push_option.ensures.ok c.reached_offer-offer.ensures

pub returns : goal.returns
returns c =
    let net = c.args.boundary.domain.now.net in
    let given = c.as_slice-b-items.result.now in
    let p = c.args.leaving.destination.now.dest in
    reached_of_borders net c.args.area.now.number p c.args.area.now.borders given
    c.args.offers.now.items c.loop-b.offers.items c.requires.area.borders c.as_slice-b-items.ensures
    (adds_end (λ (o : Offer) (b : ℕ). (o.at ≡ b) × IsPassedOn net c.args.area.now.number p o)
    c.args.offers.now.items c.loop-b.offers.items given c.loop-b.b-index c.loop-b-test.false c.loop-b.invariant)
