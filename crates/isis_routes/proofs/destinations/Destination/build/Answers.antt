use Rattle.std.proofs.Common.{List, sym, subst}
use Rattle.walk_core.specs.declared.offers.Offer.{Offer}
use Rattle.igp_theory.specs.Isis.{DownAnnouncement}
use Rattle.isis_routes.specs.steps.Destinations.{IsLevelOne}
use Rattle.isis_routes.specs.steps.Homes.{AreRoutersAt}
use Rattle.isis_routes.specs.steps.Offered.{HoldsOffers}
use Rattle.net_model.specs.Network.{Network}
use Rattle.isis_routes.proofs.CostBounds.{announced_small}
use Rattle.isis_routes.proofs.destinations.Destination.build.Goals as goal

pub collect-requires : goal.collect-requires
collect-requires c =
    subst (λ (net : Network). AreRoutersAt net c.args.dest c.args.homes.items) (sym c.net.ensures.is) c.requires.homes

pub put_down_announcements-requires-clause-small : goal.put_down_announcements-requires-clause-small
put_down_announcements-requires-clause-small c =
    announced_small c.args.domain.now.net c.in_ok-one.one.dest c.args.domain.now.walks.one.value c.in_ok-two.two.items
    c.as_slice.result.now c.net.ensures.known.network c.net.ensures.known.walks.one c.in_ok-two.ensures c.as_slice.ensures.value

pub returns-clause-announced : goal.returns-clause-announced
returns-clause-announced c =
    let net = c.args.domain.now.net in
    record {
      one = subst (λ (of : Network). IsLevelOne of c.in_ok-one.one) c.net.ensures.is c.in_ok-one.ensures.is;
      two = c.in_ok-two.ensures;
      down = subst (λ (l : List Offer). HoldsOffers (DownAnnouncement net c.in_ok-one.one.dest) l) (sym c.in_ok-down.ensures)
          c.in_ok-put_down_announcements.ensures;
    }
