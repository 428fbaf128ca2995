use Rattle.std.proofs.Common.{arith}
use Rattle.std.proofs.lemmas.Grind.{common_steps}
use Rattle.std.proofs.Common.{ℕ, get_or, refl}
use Rattle.std.proofs.lemmas.List.{get_or_default}
use Rattle.walk_core.specs.declared.offers.Offer.{Offer}
use Rattle.route_tables.proofs.ListFacts.{adds_more, adds_end}
use Rattle.ospf_routes.proofs.BorderLists.{inner_at, inner_is_router}
use Rattle.ospf_routes.proofs.SummaryFacts.{defaults_are}
use Rattle.ospf_routes.specs.steps.Summarized.{RouterDefault}
use Rattle.ospf_routes.proofs.stub_areas.push_defaults.Goals as goal

pub push_router_defaults-requires-clause-border : goal.push_router_defaults-requires-clause-border
push_router_defaults-requires-clause-border c = grind (arith, common_steps, inner_at)

pub push_router_defaults-requires-clause-router : goal.push_router_defaults-requires-clause-router
push_router_defaults-requires-clause-router c = grind (arith, common_steps, inner_is_router)

pub loop-b-preserved : goal.loop-b-preserved
loop-b-preserved c =
    let borders = c.as_slice-b-items.result.now in
    let i : ℕ = c.loop-b.b-index in
    let b : ℕ = get_or borders i 0 in
    adds_more (λ (o : Offer) (b : ℕ). RouterDefault c.args.domain.now.net c.args.area.now.number b o) c.args.offers.now.items c.loop-b.offers.items
    c.push_router_defaults.new.offers.items borders i b c.loop-b-test.true (get_or_default borders i 0 b c.loop-b-test.true) c.loop-b.invariant
    c.in_ok-push_router_defaults.ensures

pub returns : goal.returns
returns c =
    defaults_are c.args.domain.now.net c.args.area.now.number c.args.dest c.args.area.now.borders c.as_slice-b-items.result.now c.args.offers.now.items
    c.loop-b.offers.items c.requires.borders c.as_slice-b-items.ensures (c.if-not-is_all_addresses.ensures.0 refl)
    (adds_end (λ (o : Offer) (b : ℕ). RouterDefault c.args.domain.now.net c.args.area.now.number b o)
    c.args.offers.now.items c.loop-b.offers.items c.as_slice-b-items.result.now c.loop-b.b-index c.loop-b-test.false c.loop-b.invariant)
