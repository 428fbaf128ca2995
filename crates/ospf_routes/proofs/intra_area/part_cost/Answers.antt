use Rattle.ospf_routes.proofs.IntraFacts.{intra_cost_is}
use Rattle.ospf_routes.proofs.intra_area.part_cost.Goals as goal

pub returns-in-Some : goal.returns-in-Some
returns-in-Some c p is =
    let part = c.args.part.now in
    intra_cost_is c.args.domain.now.net part.area p c.args.u c.in-Some.walks.now part.offers.items c.as_slice.result.now c.in-Some.ensures.reach
    is.offers c.as_slice.ensures.value c.best_cost.result c.best_cost.ensures
