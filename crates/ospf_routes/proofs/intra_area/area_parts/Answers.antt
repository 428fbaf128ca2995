use Rattle.std.proofs.Common.{arith}
use Rattle.std.proofs.lemmas.List.{take_all}
use Rattle.ospf_routes.proofs.IntraFacts.{parts_more, parts_of_all}
use Rattle.ospf_routes.proofs.intra_area.area_parts.Goals as goal

pub loop-route-preserved : goal.loop-route-preserved
loop-route-preserved c =
    parts_more c.args.routes.now c.args.domain.now.areas c.loop-route.route-index _ c.loop-route.parts.items
    c.add_part.new.parts.items c.loop-route.invariant c.loop-route-test.true c.in_ok-add_part.ensures

pub returns-clause-every : goal.returns-clause-every
returns-clause-every c =
    parts_of_all c.args.routes.now c.args.domain.now.areas c.loop-route.route-index c.loop-route.parts.items c.loop-route.invariant
    (take_all c.loop-route.route-index c.args.routes.now (omega (arith, c.loop-route-test.false)))
