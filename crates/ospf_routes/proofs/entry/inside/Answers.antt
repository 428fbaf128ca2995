use Rattle.std.proofs.Common.{arith, List, length, refl, subst, sym}
use Rattle.walk_core.specs.BestOffers.{AreInRange}
use Rattle.walk_core.specs.declared.offers.Offer.{Offer}
use Rattle.route_tables.proofs.ListFacts.{contains_at}
use Rattle.ospf_routes.proofs.IntraFacts.{part_for, some_part}
use Rattle.ospf_routes.proofs.RouteFacts.{area_route_is}
use Rattle.ospf_routes.proofs.ZoneRoutes.{only_follows, only_none}
use Rattle.ospf_routes.proofs.entry.inside.Goals as goal

pub part_reach-requires-clause-part : goal.part_reach-requires-clause-part
part_reach-requires-clause-part c =
    let asked = c.args.asked in
    let d = asked.destination.now in
    let among = contains_at d.parts.items 0 c.index-part.result.now (omega (arith, c.requires.one)) c.index-part.ensures in
    some_part (part_for asked.domain.now d c.index-part.result.now c.requires.asked.destination among)

pub returns-in-Some-clause-some : goal.returns-in-Some-clause-some
returns-in-Some-clause-some c =
    let asked = c.args.asked in
    let net = asked.domain.now.net in
    let d = asked.destination.now in
    let part = c.index-part.result.now in
    let among = contains_at d.parts.items 0 part (omega (arith, c.requires.one)) c.index-part.ensures in
    let is = part_for asked.domain.now d part c.requires.asked.destination among in
    let reach = c.in-Some.walks.now in
    let given : List Offer = c.as_slice-offers.result.now in
    record {
      zone = is.at.within;
      same = c.in-Some.ensures.same;
      range = subst (λ (l : List Offer). AreInRange reach l) (sym c.as_slice-offers.ensures.value) c.in-Some.ensures.range;
      hops = λ found best. only_follows net d part asked.router found c.requires.asked.destination.is c.requires.one among
          (area_route_is net part.area d.dest asked.router reach part.offers.items given c.in-Some.ensures.reach is.offers
          c.as_slice-offers.ensures.value (length net) refl found best);
    }

pub returns-in-None-clause-none : goal.returns-in-None-clause-none
returns-in-None-clause-none c =
    let d = c.args.asked.destination.now in
    let part = c.index-part.result.now in
    only_none c.args.asked.domain.now.net d part c.args.asked.router c.requires.asked.destination.is c.requires.one
    (contains_at d.parts.items 0 part (omega (arith, c.requires.one)) c.index-part.ensures) (λ cost costs. c.in-None.ensures.none costs.inside)
