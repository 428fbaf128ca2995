-- The routes of a router by level 1, by level 2, by what is leaked and by default.
use Rattle.std.specs.Prelude.{◌≡◌, ℕ, List}
use Rattle.net_addr.specs.Addresses.{Block, default_prefix}
use Rattle.net_model.specs.Network.{Network}
use Rattle.net_model.specs.declared.zone.Zone.TheVariants.{One, Two}
use Rattle.route_core.specs.Hops.{AreHops}
use Rattle.walk_core.specs.Walks.{Arcs}
use Rattle.walk_core.specs.Offers.{Offers, BestCost, BestHop}
use Rattle.igp_theory.specs.Isis.{RunsLevelOne, RunsLevelTwo, DefaultCost}
use Rattle.zone_graph.specs.Segments.{AreZoneSegments}
use Rattle.zone_graph.specs.Walks.{AreZoneWalks}
use Rattle.isis_routes.specs.declared.level_walks.LevelWalks.{LevelWalks}
use Rattle.isis_routes.specs.declared.segments.LevelSegments.{LevelSegments}

-- the segments of both levels
pub record AreLevelSegments (net : Network) (segments : LevelSegments) : Type 0 where
  pub one : AreZoneSegments net One segments.one.items
  pub two : AreZoneSegments net Two segments.two.items

-- the least walks of both levels
pub record AreLevelWalks (net : Network) (walks : LevelWalks) : Type 0 where
  pub one : AreZoneWalks net One walks.one.value
  pub two : AreZoneWalks net Two walks.two.value

-- router u runs both levels
pub record RunsBothLevels (net : Network) (u : ℕ) : Type 0 where
  pub one : RunsLevelOne net u
  pub two : RunsLevelTwo net u

-- v is router u, and this holds of it
pub record IsThisRouter (holds : ℕ → Type 0) (u v : ℕ) : Type 0 where
  pub this : v ≡ u
  pub holds_of : holds u

-- one of the offers costs the least at u
pub record HasBest (arc : Arcs) (offer : Offers) (u : ℕ) : Type 0 where
  pub cost : ℕ
  pub best : BestCost arc offer u cost

-- it does, with these hops
pub record IsRouteToBest (arc : Arcs) (offer : Offers) (u : ℕ) (hops : List ℕ) : Type 0 where
  pub is : HasBest arc offer u
  pub hops_are : AreHops (BestHop arc offer u) hops

-- p isn't the prefix of all addresses, or u has no default
abbrev pub NoDefaultRoute : Network → Block → ℕ → Type 0
NoDefaultRoute net p u = (cost : ℕ) → p ≡ default_prefix → DefaultCost net u cost → ⊥
