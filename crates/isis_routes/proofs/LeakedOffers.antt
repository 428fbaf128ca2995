-- What a router leaks into level 1.
use Rattle.std.proofs.Common.{◌≡◌, ℕ, ◌<◌, ◌↔◌, List, length, Option, Some, None}
use Rattle.std.proofs.lemmas.Option.{none-some}
use Rattle.net_addr.specs.Addresses.{Block}
use Rattle.net_model.proofs.NetworkFacts.{HasConfiguration-within}
use Rattle.net_model.specs.Network.{Network, Connected, Adjacent}
use Rattle.net_model.specs.declared.zone.Zone.TheVariants.{Two as ZoneTwo}
use Rattle.walk_core.specs.BestOffers.{ListsOffer}
use Rattle.walk_core.specs.Offers.{BestCost}
use Rattle.walk_core.specs.declared.offers.Offer.{Offer}
use Rattle.igp_theory.specs.Ospf.{OfOthers}
use Rattle.igp_theory.specs.Isis.{HasLevelOneRoute, Leaks, LevelTwoAnnouncement, DownAnnouncement}
use Rattle.isis_routes.specs.steps.Offered.{HoldsOffers}
use Rattle.isis_routes.proofs.Announced.{announces_nothing, others_hold}
use Rattle.isis_routes.proofs.BestRoutes.{same_costs}

pub leaks_within : (net : Network) (u : ℕ) → Leaks net u → u < length net
leaks_within net u leaks = HasConfiguration-within net u leaks.config leaks.router

-- the level 2 cost of a prefix that a router may leak is what it announces
pub leaked_is : (net : Network) (p : Block) (u : ℕ) (two : List Offer) (found : Option ℕ) → Leaks net u → (Connected net u p → ⊥) →
    (HasLevelOneRoute net p u → ⊥) →
    HoldsOffers (LevelTwoAnnouncement net p) two → ((c : ℕ) → (found ≡ Some c) ↔ BestCost (Adjacent net ZoneTwo) (ListsOffer two) u c) →
    (c : ℕ) → (found ≡ Some c) ↔ DownAnnouncement net p u c
leaked_is net p u two found leaks away none are is c =
    let same : HoldsOffers (OfOthers (LevelTwoAnnouncement net p) u) two =
    others_hold (LevelTwoAnnouncement net p) two u are (λ k announces. announces_nothing net p u k away none announces) in (
      λ e. record {
        leaks = leaks;
        away = away;
        without_level_one = none;
        costs = record {
          runs = leaks.runs_level_two;
          best = same_costs (Adjacent net ZoneTwo) (ListsOffer two) (OfOthers (LevelTwoAnnouncement net p) u) u c same ((is c).0 e);
        };
      },
      λ down. (is c).1 (same_costs (Adjacent net ZoneTwo) (OfOthers (LevelTwoAnnouncement net p) u) (ListsOffer two) u c
          (λ at asks. ((same at asks).1, (same at asks).0)) down.costs.best),
    )

-- a prefix that is connected, or has a level 1 route, isn't leaked
pub leaks_none : (net : Network) (p : Block) (u c : ℕ) → (DownAnnouncement net p u c → ⊥) → (◌≡◌ {A = Option ℕ} None (Some c)) ↔ DownAnnouncement net p u c
leaks_none net p u c none = (λ e. absurd (none-some c e), λ down. absurd (none down))
