use Rattle.std.proofs.Common.{◌∙◌, [], ℕ, List, get_or, subst}
use Rattle.std.specs.List.{Any}
use Rattle.std.proofs.lemmas.List.{get_or_default}
use Rattle.route_tables.proofs.ListFacts.{adds_more, adds_end, adds_same}
use Rattle.ospf_routes.proofs.RangeFacts.{any_around}
use Rattle.ospf_routes.specs.Lists.{Adds}
use Rattle.ospf_routes.specs.steps.Summarized.{IsListedRange, IsRangeRoute}
use Rattle.ospf_routes.specs.declared.area_route.AreaRoute.{AreaRoute}
use Rattle.ospf_routes.specs.declared.ranges.ActiveRange.{ActiveRange}
use Rattle.ospf_routes.proofs.area_boundary.push_ranges.Goals as goal

pub loop-b-preserved : goal.loop-b-preserved
loop-b-preserved c =
    let ranges : List (List ActiveRange) = c.args.ranges.now in
    let p = c.args.dest in
    let i : ℕ = c.loop-b.b-index in
    let b : ℕ = get_or c.args.borders.now i 0 in
    let added = c.push_router_ranges.new.routes.items in
    adds_more (λ (r : AreaRoute) (b : ℕ). IsListedRange ranges p b r) c.args.routes.now.items c.loop-b.routes.items added
    c.args.borders.now i b c.loop-b-test.true (get_or_default c.args.borders.now i 0 b c.loop-b-test.true) c.loop-b.invariant
    (subst (λ (l : List ActiveRange). Adds c.loop-b.routes.items added (λ (r : AreaRoute). Any (λ (a : ActiveRange). IsRangeRoute a p b r) l))
    (c.index-ranges-b.is ∙ get_or_default ranges b c.index-ranges-b.result [] (c.requires i 0 c.loop-b-test.true))
    (adds_same c.loop-b.routes.items added (λ (r : AreaRoute). Any (λ (a : ActiveRange). IsRangeRoute a p b r) c.around.result.now)
    (λ (r : AreaRoute). Any (λ (a : ActiveRange). IsRangeRoute a p b r) c.index-ranges-b.result) c.in_ok-push_router_ranges.ensures
    (λ r. any_around (λ (a : ActiveRange). IsRangeRoute a p b r) c.index-ranges-b.result c.around.result.now p (λ a is. is.dest) c.around.ensures)))

pub returns : goal.returns
returns c =
    adds_end (λ (r : AreaRoute) (b : ℕ). IsListedRange c.args.ranges.now c.args.dest b r) c.args.routes.now.items c.loop-b.routes.items
    c.args.borders.now c.loop-b.b-index c.loop-b-test.false c.loop-b.invariant
