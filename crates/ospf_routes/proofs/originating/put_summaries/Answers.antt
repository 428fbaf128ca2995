use Rattle.std.proofs.lemmas.Result.{on_ok_weaker}
use Rattle.ospf_routes.proofs.SummaryFacts.{heard_in_area, heard_in_backbone, routes_of_routers, summarized_at}
use Rattle.ospf_routes.specs.steps.Summarized.{SummarizedFrom}
use Rattle.ospf_routes.specs.declared.area_route.AreaRoute.{AreaRoute}
use Rattle.ospf_routes.proofs.originating.put_summaries.Goals as goal

pub push_announced-requires-clause-routers : goal.push_announced-requires-clause-routers
push_announced-requires-clause-routers c =
    let net = c.args.boundary.domain.now.net in
    let p = c.args.leaving.destination.now.dest in
    routes_of_routers net (λ (r : AreaRoute). SummarizedFrom net p r.at r) c.args.leaving.routes.now c.requires.leaving.routes
    (λ r from. (summarized_at net p r.at r from).1)

pub returns-then-is_backbone : goal.returns-then-is_backbone
returns-then-is_backbone c =
    let leaving = c.args.leaving in
    heard_in_backbone c.args.boundary.domain.now.net c.args.area.now.number leaving.destination.now.dest leaving.routes.now
    c.clear.new.self.items c.push_announced.new.offers.items c.if-is_backbone.true c.requires.leaving.routes c.clear.ensures.items
    c.in_ok-push_announced.ensures

pub returns : goal.returns
returns c =
    let leaving = c.args.leaving in
    on_ok_weaker c.push_defaults.result
    (λ adds. heard_in_area c.args.boundary.domain.now.net c.args.area.now.number leaving.destination.now.dest leaving.routes.now
    c.clear.new.self.items c.push_announced.new.offers.items c.push_reached.new.offers.items c.push_defaults.new.offers.items
    c.if-is_backbone.false c.requires.leaving.routes c.clear.ensures.items c.in_ok-push_announced.ensures
    c.in_ok-push_reached.ensures adds)
    c.push_defaults.ensures
