use Rattle.std.proofs.Common.{List, refl, sym, subst}
use Rattle.net_model.specs.Network.{Adjacent}
use Rattle.net_model.specs.declared.zone.Zone.TheVariants.{One as ZoneOne}
use Rattle.igp_theory.specs.Isis.{OffersLevelOne}
use Rattle.walk_core.specs.BestOffers.{ListsOffer}
use Rattle.walk_core.specs.declared.offers.Offer.{Offer}
use Rattle.isis_routes.specs.steps.Offered.{HoldsOffers}
use Rattle.isis_routes.proofs.BestRoutes.{same_costs}
use Rattle.isis_routes.proofs.CostBounds.{level_one_small}
use Rattle.isis_routes.proofs.level_one.LevelOne.cost.Goals as goal

pub best_cost-requires-clause-small : goal.best_cost-requires-clause-small
best_cost-requires-clause-small c =
    level_one_small c.args.domain.now.net c.args.self.now.dest c.args.self.now.offers.items c.as_slice.result.now c.if-not-runs_level_one.ensures.known.network
    c.requires.one.offers c.as_slice.ensures.value

pub returns : goal.returns
returns c k =
    let net = c.args.domain.now.net in
    let u = c.args.router in
    let p = c.args.self.now.dest in
    let given : List Offer = c.as_slice.result.now in
    let are : HoldsOffers (OffersLevelOne net p) given =
    subst (λ (l : List Offer). HoldsOffers (OffersLevelOne net p) l) (sym c.as_slice.ensures.value) c.requires.one.offers in (
      λ found. record {
        runs = c.if-not-runs_level_one.ensures.runs.0 refl;
        best = same_costs (Adjacent net ZoneOne) (ListsOffer given) (OffersLevelOne net p) u k are ((c.best_cost.ensures k).0 found);
      },
      λ costs. (c.best_cost.ensures k).1 (same_costs (Adjacent net ZoneOne) (OffersLevelOne net p) (ListsOffer given) u k
          (λ at asks. ((are at asks).1, (are at asks).0)) costs.best),
    )
