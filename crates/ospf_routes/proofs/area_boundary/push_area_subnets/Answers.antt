use Rattle.std.proofs.Common.{arith}
use Rattle.std.proofs.lemmas.Grind.{common_steps}
use Rattle.std.proofs.Common.{[], ◌≡◌, ℕ, get_or, length, sym, subst}
use Rattle.route_tables.proofs.ListFacts.{adds_at, adds_end}
use Rattle.ospf_routes.proofs.AreaFacts.{number_at}
use Rattle.ospf_routes.proofs.BorderLists.{inner_at, inner_is_router}
use Rattle.ospf_routes.proofs.IntraFacts.{part_for}
use Rattle.ospf_routes.proofs.SummaryFacts.{area_subnets_are}
use Rattle.ospf_routes.proofs.PlaceFacts.{place_read}
use Rattle.ospf_routes.specs.steps.Ranges.{AreActiveRanges}
use Rattle.ospf_routes.specs.steps.Summarized.{IsAreaSubnet}
use Rattle.ospf_routes.specs.declared.area_route.AreaRoute.{AreaRoute}
use Rattle.ospf_routes.proofs.area_boundary.push_area_subnets.Goals as goal

pub subnet_summary-requires-clause-border : goal.subnet_summary-requires-clause-border
subnet_summary-requires-clause-border c = grind (arith, common_steps, inner_at)

pub subnet_summary-requires-clause-router : goal.subnet_summary-requires-clause-router
subnet_summary-requires-clause-router c = grind (arith, common_steps, inner_is_router)

pub bounds-ranges-b : goal.bounds-ranges-b
bounds-ranges-b c = grind (arith, common_steps, inner_is_router)

pub subnet_summary-requires-clause-ranges : goal.subnet_summary-requires-clause-ranges
subnet_summary-requires-clause-ranges c =
    subst (AreActiveRanges c.args.domain.now.net (get_or c.as_slice-b-items.result.now c.loop-b.b-index 0)) (sym c.as_slice-actives.ensures)
    (place_read (AreActiveRanges c.args.domain.now.net) [] (length c.args.domain.now.net) c.args.ranges.now
    (get_or c.as_slice-b-items.result.now c.loop-b.b-index 0) c.index-ranges-b.result c.requires.ranges
    (inner_is_router c.args.domain.now.net c.area.result.now c.as_slice-b-items.result.now c.loop-b.b-index 0 c.area.ensures.area
    c.as_slice-b-items.ensures c.loop-b-test.true)
    c.index-ranges-b.is)

pub loop-b-preserved : goal.loop-b-preserved
loop-b-preserved c =
    adds_at (λ (r : AreaRoute) (b : ℕ). (r.at ≡ b) × IsAreaSubnet c.args.domain.now.net c.args.destination.now.dest c.args.part.now.area r)
    c.args.routes.now.items c.loop-b.routes.items c.push_option.new.all.items c.as_slice-b-items.result.now c.loop-b.b-index 0
    c.subnet_summary.result c.loop-b-test.true c.loop-b.invariant c.in_ok-push_option.ensures.ok c.subnet_summary.ensures

pub returns : goal.returns
returns c =
    let net = c.args.domain.now.net in
    let areas = c.args.domain.now.areas in
    let p = c.args.destination.now.dest in
    let part = c.args.part.now in
    let given = c.as_slice-b-items.result.now in
    let a = c.area.result.now in
    let at = (part_for c.args.domain.now c.args.destination.now part c.requires.destination c.requires.part).at in
    area_subnets_are net p part.area a given c.args.routes.now.items c.loop-b.routes.items c.area.ensures.area
    (number_at areas part.area part.zone a at c.area.ensures.is) c.as_slice-b-items.ensures
    (adds_end (λ (r : AreaRoute) (b : ℕ). (r.at ≡ b) × IsAreaSubnet net p part.area r) c.args.routes.now.items c.loop-b.routes.items given c.loop-b.b-index
    c.loop-b-test.false c.loop-b.invariant)
