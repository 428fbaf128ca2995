-- The first hops of the best routes to some offers.
use Rattle.std.specs.Prelude.{◌≡◌, ℕ, List}
use Rattle.walk_core.specs.Reach.{Reach}
use Rattle.walk_core.specs.BestOffers.{IsBestTotal, AreHopsTowards}
use Rattle.walk_core.specs.declared.offers.Offer.{Offer}
use Rattle.route_tables.specs.Routings.{AreHopsTo, IsReached}
use Rattle.route_tables.specs.declared.route.Route.{Route}
use Rattle.route_tables.specs.declared.route.Route.TheVariants.{Drops, Towards, Through}
use Rattle.route_tables.specs.declared.route.Target.{Target}

-- the hops below n towards the offers of the best cost
pub record AreBestHops (reach : Reach) (offers : List Offer) (n : ℕ) (hops : List ℕ) : Type 0 where
  pub cost : ℕ
  pub best : IsBestTotal reach offers cost
  pub towards : AreHopsTowards reach offers cost n hops

-- the target is of this zone and reached, and its hops are those towards the best offers
pub record IsBestTarget (reach : Reach) (offers : List Offer) (zone n : ℕ) (target : Target) : Type 0 where
  pub zone_is : target.zone ≡ zone
  pub reached : IsReached reach target.at
  pub best : (hops : List ℕ) → AreHopsTo reach target.at n hops → AreBestHops reach offers n hops

-- the route takes the hops towards the best offers
abbrev pub IsBestRoute : Reach → List Offer → ℕ → ℕ → Route → Type 0
IsBestRoute reach offers zone n Drops = ⊥
IsBestRoute reach offers zone n (Towards target) = IsBestTarget reach offers zone n target
IsBestRoute reach offers zone n (Through hops) = AreBestHops reach offers n hops
