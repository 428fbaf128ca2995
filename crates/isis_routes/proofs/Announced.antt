-- What routers announce into level 2.
use Rattle.std.proofs.Common.{arith}
use Rattle.std.proofs.lemmas.Grind.{common_steps}
use Rattle.std.proofs.Common.{◌≡◌, ℕ, ◌<◌, ◌↔◌, ◌⊎◌, ⊎_elim, List, [], length, get_or, Option, Some, subst, refl}
use Rattle.std.specs.List.{Contains}
use Rattle.std.proofs.lemmas.List.Elements.{Contains-get_or}
use Rattle.net_addr.specs.Addresses.{Block}
use Rattle.net_model.proofs.NetworkFacts.{HasConfiguration-within}
use Rattle.net_model.specs.Network.{Network, Adjacent, Connected}
use Rattle.walk_core.specs.Offers.{Offers}
use Rattle.walk_core.specs.declared.offers.Offer.{Offer}
use Rattle.igp_theory.specs.Ospf.{OfOthers}
use Rattle.igp_theory.specs.Isis.{LevelOneCost, HasLevelOneRoute, LevelTwoAnnouncement, own, of_level_one}
use Rattle.route_tables.specs.Lists.{Adds, Exactly}
use Rattle.isis_routes.specs.steps.Offered.{AddsOffers, HoldsOffers, IsOfferOf, LevelOneAnnouncement, OwnAnnouncement}
use Rattle.isis_routes.specs.steps.Routing.{RunsBothLevels}
use Rattle.isis_routes.specs.steps.Destinations.{IsLevelOne}
use Rattle.isis_routes.specs.steps.Near.{AreNearOfBoth, HoldAnnouncers}
use Rattle.isis_routes.specs.declared.level_one.LevelOne.{LevelOne}
use Rattle.walk_core.specs.BestOffers.{ListsOffer}
use Rattle.walk_core.specs.Walks.{LeastCost}
use Rattle.net_model.specs.declared.zone.Zone.TheVariants.{One as ZoneOne}
use Rattle.isis_routes.proofs.OfferLists.{holds_all, offers_same}

-- a router of a list of those of both levels runs both
pub listed_runs : (net : Network) (routers : List ℕ) (i : ℕ) → ((u : ℕ) → Contains routers u → RunsBothLevels net u) → i < length routers →
    RunsBothLevels net (get_or routers i 0)
listed_runs net routers i are within = are (get_or routers i 0) (Contains-get_or routers i 0 within)

pub runs_within : (net : Network) (u : ℕ) → RunsBothLevels net u → u < length net
runs_within net u runs = HasConfiguration-within net u runs.one.config runs.one.router

-- a router of both levels announces what it reaches by level 1
pub level_one_added : (net : Network) (p : Block) (b : ℕ) (old new : List Offer) (cost : Option ℕ) → RunsBothLevels net b →
    AddsOffers old new b (λ k. cost ≡ Some k) → ((c : ℕ) → (cost ≡ Some c) ↔ LevelOneCost net p b c) → AddsOffers old new b (LevelOneAnnouncement net p b)
level_one_added net p b old new cost runs adds is =
    offers_same old new b (λ k. cost ≡ Some k) (LevelOneAnnouncement net p b) adds
    (λ c. (λ same. record { runs = runs.two; costs = (is c).0 same }, λ announces. (is c).1 announces.costs))

-- all routers of both levels hold the announcers
pub all_announce : (net : Network) (p : Block) (both : List ℕ) → Exactly (RunsBothLevels net) both → HoldAnnouncers net p both
all_announce net p both are = record {
  both = λ u. (are u).0;
  every = λ u cost announces. (are u).1 (record { one = announces.costs.runs; two = announces.runs });
}

-- where nothing is offered none announces it
pub none_announce : (net : Network) (one : LevelOne) → IsLevelOne net one → length one.offers.items ≡ 0 → HoldAnnouncers net one.dest []
none_announce net one is none = record {
  both = λ u has. absurd (omega (arith, has.1));
  every = λ u cost announces.
      let best = announces.costs.best.attained in
      let listed = (is.offers announces.costs.best.at best.asks).1 best.offered in
      absurd (omega (arith, none, listed.among.1));
}

-- else those do that reach the router where all is offered
pub near_announce : (net : Network) (one : LevelOne) (h : ℕ) (near : List ℕ) → IsLevelOne net one →
    ((at asks : ℕ) → ListsOffer one.offers.items at asks → at ≡ h) → AreNearOfBoth net h near → HoldAnnouncers net one.dest near
near_announce net one h near is lone are = record {
  both = λ u has. ((are u).0 has).both;
  every = λ u cost announces.
      let best = announces.costs.best.attained in
      let here : announces.costs.best.at ≡ h = lone announces.costs.best.at best.asks ((is.offers announces.costs.best.at best.asks).1 best.offered) in
      (are u).1 (record {
        both = record { one = announces.costs.runs; two = announces.runs };
        near = record {
          this = refl;
          distance = best.walk;
          walk = subst (λ (v : ℕ). LeastCost (Adjacent net ZoneOne) u v best.walk) here best.reached;
        };
      });
}

sides : (net : Network) (p : Block) (first : List Offer) (o : Offer) → Exactly (IsOfferOf (OwnAnnouncement net p)) first →
    LevelTwoAnnouncement net p o.at o.asks → Contains first o ⊎ LevelOneAnnouncement net p o.at o.asks
sides net p first o are it_5 = grind (arith, common_steps)

-- own subnets, and then what is reached by level 1
pub announced_all : (net : Network) (p : Block) (first all : List Offer) → Exactly (IsOfferOf (OwnAnnouncement net p)) first →
    Adds first all (IsOfferOf (LevelOneAnnouncement net p)) → HoldsOffers (LevelTwoAnnouncement net p) all
announced_all net p first all are adds =
    holds_all (LevelTwoAnnouncement net p) all
    (λ o. (
      λ has. ⊎_elim
          (λ earlier. let owned = (are o).0 earlier in own owned.runs owned.offers)
          (λ now. of_level_one now.runs now.costs)
          ((adds o).0 has),
      λ is. (adds o).1 (sides net p first o are is),
    ))

-- a router that isn't connected to a prefix, and has no level 1 route for it, announces nothing of it
pub announces_nothing : (net : Network) (p : Block) (u c : ℕ) → (Connected net u p → ⊥) → (HasLevelOneRoute net p u → ⊥) → LevelTwoAnnouncement net p u c → ⊥
announces_nothing net p u c away none it_6 = grind (arith, common_steps)

-- where a router makes none of the offers, all are of others
pub others_hold : (offer : Offers) (offers : List Offer) (u : ℕ) → HoldsOffers offer offers → ((c : ℕ) → offer u c → ⊥) → HoldsOffers (OfOthers offer u) offers
others_hold offer offers u are none at asks = (
  λ l.
      let offered = (are at asks).0 l in
      record { other = λ same. none asks (subst (λ (k : ℕ). offer k asks) same offered); offered = offered },
  λ o. (are at asks).1 o.offered,
)
