-- Kinds of prefixes: those of one kind have the same entries as the first of them.
use Rattle.std.specs.Prelude.{◌≡◌, ◌<◌, ℕ, List, length, All, IfSome, slice_index_or}
use Rattle.net_addr.specs.Addresses.{Block}
use Rattle.route_tables.specs.Lanes.{DecidesBehind, DecidesFor}
use Rattle.route_tables.specs.Prefixes.{prefix_at}
use Rattle.route_tables.specs.Protocols.{AreAlikeInLane, ProtocolRoutes}
use Rattle.route_tables.specs.declared.kinds.LaneBehind.{LaneBehind}
use Rattle.route_tables.specs.declared.kinds.LaneKinds.{LaneKinds}
use Rattle.route_tables.specs.declared.lane.Behind.{Behind}
use Rattle.route_tables.specs.declared.lane.Decision.{Decision}
use Rattle.route_tables.specs.declared.lane.Decision.TheVariants.{Unknown}

-- the first prefix of a kind
abbrev pub first_prefix_of : List Block → List ℕ → ℕ → Block
first_prefix_of dests firsts kind = prefix_at dests (slice_index_or firsts kind 0)

-- the kinds of the first k prefixes, each of which is alike to the first one of its kind
pub record AreKinds (alike : Block → Block → Type 0) (dests : List Block) (k : ℕ) (kinds firsts : List ℕ) : Type 0 where
  pub count : length kinds ≡ k
  pub below : All (λ (kind : ℕ). kind < length firsts) kinds
  pub places : All (λ (place : ℕ). place < length dests) firsts
  pub alike_first : (place : ℕ) → place < k → alike (first_prefix_of dests firsts (slice_index_or kinds place 0)) (prefix_at dests place)

-- the kinds of all prefixes
abbrev pub AreLaneKinds : (Block → Block → Type 0) → List Block → LaneKinds → Type 0
AreLaneKinds alike dests own = AreKinds alike dests (length dests) own.kinds.value.items own.firsts.items

-- what decides for the first prefixes of the kinds below k
pub record AreDecided (decides : Block → Decision → Type 0) (dests : List Block) (firsts : List ℕ) (k : ℕ) (decisions : List Decision) : Type 0 where
  pub count : length decisions ≡ k
  pub each : (kind : ℕ) → kind < k → decides (first_prefix_of dests firsts kind) (slice_index_or decisions kind Unknown)

-- what decides for the first prefix of each kind
abbrev pub IsToldLane : (Block → Decision → Type 0) → List Block → LaneKinds → Type 0
IsToldLane decides dests own = AreDecided decides dests own.firsts.items (length own.firsts.items) own.decisions.items

-- decisions of which nothing is known
abbrev pub open_behind : Behind
open_behind = record { first = Unknown; second = Unknown }

-- what decides behind for the first prefixes of the kinds below k
pub record AreDecidedBehind (decides : Block → Behind → Type 0) (dests : List Block) (firsts : List ℕ) (k : ℕ) (behind : List Behind) : Type 0 where
  pub count : length behind ≡ k
  pub each : (kind : ℕ) → kind < k → decides (first_prefix_of dests firsts kind) (slice_index_or behind kind open_behind)

-- the zone behind, and what decides over it for the first prefixes of the kinds of which it is known
pub record IsToldBehind (routes : ProtocolRoutes) (lane : ℕ) (dests : List Block) (firsts : List ℕ) (behind : LaneBehind) : Type 0 where
  pub zone : ℕ
  pub zone_is : IfSome behind.zone (λ known. known ≡ zone)
  pub below : IfSome behind.zone (λ known. known < routes.zones)
  pub decided : AreDecidedBehind (DecidesBehind routes lane zone) dests firsts (length behind.decisions.items) behind.decisions.items

-- the kinds of all prefixes in a lane, and what decides for each
pub record IsLane (routes : ProtocolRoutes) (lane : ℕ) (dests : List Block) (own : LaneKinds) : Type 0 where
  pub kinds : AreLaneKinds (AreAlikeInLane routes lane) dests own
  pub decided : IsToldLane (DecidesFor routes lane) dests own
  pub behind : IsToldBehind routes lane dests own.firsts.items own.behind

-- each of so many lanes is so
pub record AreLanesBelow (routes : ProtocolRoutes) (dests : List Block) (lanes : ℕ) (all : List LaneKinds) : Type 0 where
  pub count : length all ≡ lanes
  pub each : (lane : ℕ) (own : LaneKinds) → lane < lanes → IsLane routes lane dests (slice_index_or all lane own)
