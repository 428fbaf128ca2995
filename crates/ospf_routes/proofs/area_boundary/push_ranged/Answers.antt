use Rattle.std.proofs.Common.{arith}
use Rattle.std.proofs.lemmas.Grind.{common_steps}
use Rattle.std.proofs.Common.{ℕ}
use Rattle.std.specs.List.{Any}
use Rattle.std.proofs.lemmas.Result.{on_ok_weaker}
use Rattle.route_tables.proofs.ListFacts.{adds_same}
use Rattle.ospf_routes.proofs.BorderLists.{listed_is_router}
use Rattle.ospf_routes.proofs.SummaryFacts.{all_ranges_are, no_ranges_added}
use Rattle.ospf_routes.specs.steps.Summarized.{IsListedRange, SummarizedRange}
use Rattle.ospf_routes.specs.declared.area_route.AreaRoute.{AreaRoute}
use Rattle.ospf_routes.proofs.area_boundary.push_ranged.Goals as goal

pub push_ranges-requires : goal.push_ranges-requires
push_ranges-requires c i d within = grind (arith, common_steps, listed_is_router)

pub returns-then-not-has : goal.returns-then-not-has
returns-then-not-has c =
    no_ranges_added c.args.boundary.domain.now.net c.args.dest c.args.boundary.ranged.now c.args.routes.now.items c.requires.ranged
    (λ among. let yes = c.has.ensures.1 among in let no = c.if-not-has.true in cc (yes, no))

pub returns : goal.returns
returns c =
    let net = c.args.boundary.domain.now.net in
    let p = c.args.dest in
    let ranges = c.args.boundary.ranges.now in
    let borders = c.args.boundary.borders.now in
    on_ok_weaker c.push_ranges.result
    (λ adds. adds_same c.args.routes.now.items c.push_ranges.new.routes.items
    (λ (r : AreaRoute). Any (λ (b : ℕ). IsListedRange ranges p b r) borders) (λ (r : AreaRoute). SummarizedRange net p r.at r) adds
    (all_ranges_are net p ranges borders c.requires.ranges c.requires.borders))
    c.push_ranges.ensures
