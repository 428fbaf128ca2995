-- The best of some offers, offer by offer.
use Rattle.std.specs.Prelude.{◌≡◌, ◌<◌, List, Option, Some, MatchOption, IsTrue, Contains}
use Rattle.walk_core.specs.Reach.{Reach, listed_hops_of}
use Rattle.walk_core.specs.BestOffers.{IsBestTotal, NoneTotals, total_towards}
use Rattle.walk_core.specs.declared.offers.Offer.{Offer}
use Rattle.route_tables.specs.declared.best.BestAt.{BestAt}

-- no offer costs less in all, one that costs this is made at the vertex, and where it says so that vertex alone makes them
pub record IsBestAt (reach : Reach) (offers : List Offer) (best : BestAt) : Type 0 where
  pub best_total : IsBestTotal reach offers best.cost
  pub made : best_total.attained.offer.at ≡ best.at
  pub alone : IsTrue best.alone → (o : Offer) → Contains offers o → total_towards reach o ≡ Some best.cost → o.at ≡ best.at

-- this is the best of the offers, if one of them is reached
abbrev pub IsBestSoFar : Reach → List Offer → Option BestAt → Type 0
IsBestSoFar reach offers best = MatchOption best (NoneTotals reach offers) (IsBestAt reach offers)

-- the first hops towards the vertex are those towards each offer that costs this
abbrev pub LeadAlike : Reach → List Offer → BestAt → Type 0
LeadAlike reach offers best =
    (o : Offer) → Contains offers o → total_towards reach o ≡ Some best.cost → listed_hops_of reach o.at ≡ listed_hops_of reach best.at

-- the better of two, and both together where they cost the same
pub data IsBetterOf (known next better : BestAt) : Type 0 where
  lower : next.cost < known.cost → better ≡ next → IsBetterOf known next better
  kept : known.cost < next.cost → better ≡ known → IsBetterOf known next better
  both : next.cost ≡ known.cost → better.cost ≡ known.cost → better.at ≡ known.at →
      (IsTrue better.alone → IsTrue known.alone × (known.at ≡ next.at)) → IsBetterOf known next better
