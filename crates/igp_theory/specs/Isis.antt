-- IS-IS: level 1, level 2, leaking, attached routers, the table (RFC 1195; wide metrics by RFC 5305; leaking by RFC 5302).
use Rattle.std.specs.Prelude.{◌≡◌, ◌≢◌, ℕ, Some, IsTrue, List}
use Rattle.net_addr.specs.Addresses.{Block, default_prefix}
use Rattle.net_model.specs.Configuration.{Configuration}
use Rattle.net_model.specs.LevelSets.{has_level_one, has_level_two}
use Rattle.net_model.specs.Network.{Network, HasConfiguration, UpInterface, Connected, Adjacent}
use Rattle.net_model.specs.declared.interface.Interface.{Interface}
use Rattle.net_model.specs.declared.zone.Zone.TheVariants.{One as LevelOne, Two as LevelTwo}
use Rattle.walk_core.specs.Walks.{Leg, Walks}
use Rattle.walk_core.specs.Offers.{BestCost, BestHop}
use Rattle.route_core.specs.declared.entry.Entry.{Entry}
use Rattle.igp_theory.specs.Ospf.{OfOthers}
use Rattle.igp_theory.specs.Routes.{ForwardsTo}

-- Levels of a router

-- router u has an IS-IS process that runs level 1
pub record RunsLevelOne (net : Network) (u : ℕ) : Type 0 where
  pub config : Configuration
  pub router : HasConfiguration net u config
  pub isis : IsTrue config.isis
  pub level : IsTrue (has_level_one config.levels)

-- router u has an IS-IS process that runs level 2
pub record RunsLevelTwo (net : Network) (u : ℕ) : Type 0 where
  pub config : Configuration
  pub router : HasConfiguration net u config
  pub isis : IsTrue config.isis
  pub level : IsTrue (has_level_two config.levels)

-- Level 1 routes

-- router w offers the subnet of an up interface that runs level 1, at its level 1 metric
pub record OffersLevelOne (net : Network) (p : Block) (w cost : ℕ) : Type 0 where
  pub interface : Interface
  pub up : UpInterface net w interface
  pub subnet : interface.subnet ≡ Some p
  pub level : IsTrue interface.level1
  pub costs : interface.metric1 ≡ cost

-- the level 1 cost of p at u
pub record LevelOneCost (net : Network) (p : Block) (u cost : ℕ) : Type 0 where
  pub runs : RunsLevelOne net u
  pub best : BestCost (Adjacent net LevelOne) (OffersLevelOne net p) u cost

-- a first hop of a level 1 route
pub record LevelOneHop (net : Network) (p : Block) (u h : ℕ) : Type 0 where
  pub runs : RunsLevelOne net u
  pub best : BestHop (Adjacent net LevelOne) (OffersLevelOne net p) u h

-- Level 2 routes

-- router w offers the subnet of an up interface that runs level 2, at its level 2 metric
pub record OffersLevelTwo (net : Network) (p : Block) (w cost : ℕ) : Type 0 where
  pub interface : Interface
  pub up : UpInterface net w interface
  pub subnet : interface.subnet ≡ Some p
  pub level : IsTrue interface.level2
  pub costs : interface.metric2 ≡ cost

-- what a router that runs level 2 announces there: its own level 2 subnets, and, where it runs both
-- levels, each prefix that it reaches by level 1, at that cost
pub data LevelTwoAnnouncement (net : Network) (p : Block) (b cost : ℕ) : Type 0 where
  own : RunsLevelTwo net b → OffersLevelTwo net p b cost → LevelTwoAnnouncement net p b cost
  of_level_one : RunsLevelTwo net b → LevelOneCost net p b cost → LevelTwoAnnouncement net p b cost

-- the level 2 cost of p at u, over announcements of other routers
pub record LevelTwoCost (net : Network) (p : Block) (u cost : ℕ) : Type 0 where
  pub runs : RunsLevelTwo net u
  pub best : BestCost (Adjacent net LevelTwo) (OfOthers (LevelTwoAnnouncement net p) u) u cost

-- a first hop of a level 2 route
pub record LevelTwoHop (net : Network) (p : Block) (u h : ℕ) : Type 0 where
  pub runs : RunsLevelTwo net u
  pub best : BestHop (Adjacent net LevelTwo) (OfOthers (LevelTwoAnnouncement net p) u) u h

-- p has a level 1 route, a level 2 route at u
pub record HasLevelOneRoute (net : Network) (p : Block) (u : ℕ) : Type 0 where
  pub cost : ℕ
  pub costs : LevelOneCost net p u cost

pub record HasLevelTwoRoute (net : Network) (p : Block) (u : ℕ) : Type 0 where
  pub cost : ℕ
  pub costs : LevelTwoCost net p u cost

-- Leaking from level 2 into level 1 (RFC 5302); that one line asks for all prefixes is this project's profile

-- a router of both levels leaks where its configuration says so
pub record Leaks (net : Network) (u : ℕ) : Type 0 where
  pub runs_level_one : RunsLevelOne net u
  pub runs_level_two : RunsLevelTwo net u
  pub config : Configuration
  pub router : HasConfiguration net u config
  pub leak : IsTrue config.leak

-- what a router that leaks announces into level 1, marked down: each prefix that isn't connected at it, has no
-- level 1 route and has a level 2 route there, at that route's cost
pub record DownAnnouncement (net : Network) (p : Block) (b cost : ℕ) : Type 0 where
  pub leaks : Leaks net b
  pub away : Connected net b p → ⊥
  pub without_level_one : HasLevelOneRoute net p b → ⊥
  pub costs : LevelTwoCost net p b cost

-- the down cost of p at u, over announcements of other routers
pub record DownCost (net : Network) (p : Block) (u cost : ℕ) : Type 0 where
  pub runs : RunsLevelOne net u
  pub best : BestCost (Adjacent net LevelOne) (OfOthers (DownAnnouncement net p) u) u cost

-- a first hop of a down route
pub record DownHop (net : Network) (p : Block) (u h : ℕ) : Type 0 where
  pub runs : RunsLevelOne net u
  pub best : BestHop (Adjacent net LevelOne) (OfOthers (DownAnnouncement net p) u) u h

-- p has a down route at u
pub record HasDownRoute (net : Network) (p : Block) (u : ℕ) : Type 0 where
  pub cost : ℕ
  pub costs : DownCost net p u cost

-- Attached routers and the default of level 1 (RFC 1195, section 3.2); that a router of both levels
-- takes no such default is this project's profile

-- a router of both levels is attached where level 2 leads to a router of another IS-IS area
pub record IsAttached (net : Network) (u : ℕ) : Type 0 where
  pub runs_level_one : RunsLevelOne net u
  pub runs_level_two : RunsLevelTwo net u
  pub far : ℕ
  pub legs : List Leg
  pub walk : Walks (Adjacent net LevelTwo) u legs far
  pub config : Configuration
  pub router : HasConfiguration net far config
  pub other_area : runs_level_two.config.isis_area ≢ config.isis_area

-- an attached router offers all addresses at no cost
pub record OffersDefault (net : Network) (b cost : ℕ) : Type 0 where
  pub attached : IsAttached net b
  pub costs : cost ≡ 0

-- the distance of the nearest attached routers from u, which runs level 1 alone
pub record DefaultCost (net : Network) (u cost : ℕ) : Type 0 where
  pub runs : RunsLevelOne net u
  pub alone : RunsLevelTwo net u → ⊥
  pub best : BestCost (Adjacent net LevelOne) (OffersDefault net) u cost

-- a first hop towards a nearest attached router
pub record DefaultHop (net : Network) (u h : ℕ) : Type 0 where
  pub runs : RunsLevelOne net u
  pub alone : RunsLevelTwo net u → ⊥
  pub best : BestHop (Adjacent net LevelOne) (OffersDefault net) u h

-- The IS-IS table: for a prefix that isn't connected the level 1 route, else the level 2 route, else the down route, else
-- for all addresses the default of a router that runs level 1 alone
pub data IsisEntry (net : Network) (u : ℕ) (p : Block) (e : Entry) : Type 0 where
  level_one : (Connected net u p → ⊥) → HasLevelOneRoute net p u → ForwardsTo (LevelOneHop net p u) e → IsisEntry net u p e
  level_two : (Connected net u p → ⊥) → (HasLevelOneRoute net p u → ⊥) → HasLevelTwoRoute net p u → ForwardsTo (LevelTwoHop net p u) e → IsisEntry net u p e
  down : (Connected net u p → ⊥) → (HasLevelOneRoute net p u → ⊥) → (HasLevelTwoRoute net p u → ⊥) → HasDownRoute net p u → ForwardsTo (DownHop net p u) e →
      IsisEntry net u p e
  default_route : (Connected net u p → ⊥) → (HasLevelOneRoute net p u → ⊥) → (HasLevelTwoRoute net p u → ⊥) → (HasDownRoute net p u → ⊥) →
      p ≡ default_prefix → (cost : ℕ) →
      DefaultCost net u cost → ForwardsTo (DefaultHop net u) e → IsisEntry net u p e
