use Rattle.std.proofs.Common.{◌≡◌, List, sym, subst}
use Rattle.std.proofs.lemmas.Result.{IfOk-weaker}
use Rattle.net_model.specs.Network.{Network}
use Rattle.walk_core.specs.declared.offers.Offer.{Offer}
use Rattle.igp_theory.specs.Isis.{LevelTwoAnnouncement}
use Rattle.route_tables.specs.Lists.{Exactly}
use Rattle.isis_routes.specs.steps.Homes.{AreRoutersAt}
use Rattle.isis_routes.specs.steps.Offered.{HoldsOffers, IsOfferOf, OwnAnnouncement}
use Rattle.isis_routes.proofs.Announced.{announced_all}
use Rattle.isis_routes.proofs.announcements.announcements.Goals as goal

pub put_own_subnets-requires : goal.put_own_subnets-requires
put_own_subnets-requires c =
    subst (λ (net : Network). AreRoutersAt net c.args.one.now.dest c.as_slice.result.now) (sym c.net.ensures.is)
    (subst (AreRoutersAt c.args.domain.now.net c.args.one.now.dest) (sym c.as_slice.ensures.value) c.requires.one.homes)

pub returns : goal.returns
returns c =
    let p = c.args.one.now.dest in
    let holds = HoldsOffers (LevelTwoAnnouncement c.args.domain.now.net p) in
    let first : List Offer = c.put_own_subnets.new.offers.items in
    let all : List Offer = c.push_level_one.new.offers.items in
    let are : holds all = announced_all c.args.domain.now.net p first all
    (subst (λ (net : Network). Exactly (IsOfferOf (OwnAnnouncement net p)) first) c.net.ensures.is
    c.in_ok-put_own_subnets.ensures) c.in_ok-push_level_one.ensures in
    IfOk-weaker c.kept.result (λ kept. kept.items ≡ all) (λ kept. holds kept.items)
    (λ kept same. subst (λ (l : List Offer). holds l) (sym same) are) c.kept.ensures
