-- The routers of both levels that reach a router by level 1.
use Rattle.std.specs.Prelude.{◌≡◌, ◌<◌, ℕ, List, [], Contains, length, slice_index_or}
use Rattle.net_addr.specs.Addresses.{Block}
use Rattle.net_model.specs.Network.{Network, Adjacent}
use Rattle.net_model.specs.declared.zone.Zone.TheVariants.{One}
use Rattle.walk_core.specs.Walks.{LeastCost}
use Rattle.route_tables.specs.Lists.{Exactly}
use Rattle.isis_routes.specs.steps.Offered.{LevelOneAnnouncement}
use Rattle.isis_routes.specs.steps.Routing.{RunsBothLevels}

-- u is router b, from which a walk of level 1 leads to router h
pub record IsNear (net : Network) (h b u : ℕ) : Type 0 where
  pub this : u ≡ b
  pub distance : ℕ
  pub walk : LeastCost (Adjacent net One) b h distance

-- router u runs both levels, and such a walk leads from it
pub record IsNearOfBoth (net : Network) (h u : ℕ) : Type 0 where
  pub both : RunsBothLevels net u
  pub near : IsNear net h u u

-- these are the routers of both levels that reach h
abbrev pub AreNearOfBoth : Network → ℕ → List ℕ → Type 0
AreNearOfBoth net h = Exactly (IsNearOfBoth net h)

-- for each of the first n routers there are those
pub record AreAllNear (net : Network) (n : ℕ) (all : List (List ℕ)) : Type 0 where
  pub count : length all ≡ n
  pub each : (h : ℕ) → h < n → AreNearOfBoth net h (slice_index_or all h [])

-- the routers run both levels, and among them are all that announce p by level 1
pub record HoldAnnouncers (net : Network) (p : Block) (routers : List ℕ) : Type 0 where
  pub both : (u : ℕ) → Contains routers u → RunsBothLevels net u
  pub every : (u cost : ℕ) → LevelOneAnnouncement net p u cost → Contains routers u
