use Rattle.std.proofs.lemmas.Result.{on_ok_weaker}
use Rattle.route_tables.proofs.ListFacts.{adds_both, exactly_added}
use Rattle.ospf_routes.proofs.SummaryFacts.{summarized_both}
use Rattle.ospf_routes.specs.steps.Summarized.{SummarizedFrom, SummarizedRange, SummarizedSubnet}
use Rattle.ospf_routes.specs.declared.area_route.AreaRoute.{AreaRoute}
use Rattle.ospf_routes.proofs.area_boundary.put_summarized.Goals as goal

pub returns : goal.returns
returns c =
    let net = c.args.boundary.domain.now.net in
    let p = c.args.destination.now.dest in
    let From : AreaRoute → Type 0 = λ r. SummarizedFrom net p r.at r in
    on_ok_weaker c.push_ranged.result
    (λ adds. exactly_added c.clear.new.self.items c.push_ranged.new.routes.items From c.clear.ensures.items
    (adds_both c.clear.new.self.items c.push_subnets.new.routes.items c.push_ranged.new.routes.items
    (λ (r : AreaRoute). SummarizedSubnet net p r.at r) (λ (r : AreaRoute). SummarizedRange net p r.at r) From
    c.in_ok-push_subnets.ensures adds (λ r. summarized_both net p r.at r)))
    c.push_ranged.ensures
