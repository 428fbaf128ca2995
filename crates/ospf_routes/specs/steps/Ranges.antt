-- Components and active ranges.
use Rattle.std.specs.Prelude.{◌≡◌, ◌<◌, ◌≤◌, ℕ, Bool, true, false, List, [], length, Some, None, Contains}
use Rattle.net_addr.specs.Addresses.{Block, Covers}
use Rattle.net_model.specs.Network.{Network}
use Rattle.net_model.specs.declared.area.Range.{Range}
use Rattle.igp_theory.specs.Ospf.{IntraAreaCost, HasRange, IsComponent, IsActive, IsActiveRange, RangeCost}
use Rattle.ospf_routes.specs.steps.Places.{AreEach}
use Rattle.ospf_routes.specs.Lists.{Exactly}
use Rattle.ospf_routes.specs.declared.ranges.ActiveRange.{ActiveRange}
use Rattle.ospf_routes.specs.declared.ranges.OuterRange.{OuterRange}

-- the other range is longer, of the same area, and covers p
pub record IsLonger (r : Range) (p : Block) (other : Range) : Type 0 where
  pub area : other.area ≡ r.area
  pub covers : Covers other.dest p
  pub longer : r.dest.len < other.dest.len

-- it is a range of router b, and the inner ones are some of those, among them all that it covers
pub record IsOuterRange (net : Network) (b : ℕ) (outer : OuterRange) : Type 0 where
  pub has : HasRange net b outer.range.now
  pub among : (r : Range) → Contains outer.inner.now r → HasRange net b r
  pub every : (r : Range) → HasRange net b r → Covers outer.range.now.dest r.dest → Contains outer.inner.now r

-- the range covers p, which has this intra-area cost at b in the range's area
pub record IsCoveredAt (net : Network) (b : ℕ) (r : Range) (p : Block) (cost : ℕ) : Type 0 where
  pub covered : Covers r.dest p
  pub reached : IntraAreaCost net r.area p b cost

-- some component of the range costs this
pub record HasComponentCost (net : Network) (b : ℕ) (r : Range) (cost : ℕ) : Type 0 where
  pub dest : Block
  pub component : IsComponent net b r dest cost

-- p is a component of a range at b
pub record IsComponentOfSome (net : Network) (b : ℕ) (p : Block) : Type 0 where
  pub range : Range
  pub cost : ℕ
  pub component : IsComponent net b range p cost

-- the least of some costs
pub record IsLeastOf (costs : List ℕ) (cost : ℕ) : Type 0 where
  pub among : Contains costs cost
  pub least : (other : ℕ) → Contains costs other → cost ≤ other

-- the greatest of some costs
pub record IsGreatestOf (costs : List ℕ) (cost : ℕ) : Type 0 where
  pub among : Contains costs cost
  pub greatest : (other : ℕ) → Contains costs other → other ≤ cost

-- what a range costs over these costs of its components
pub data IsPicked (r : Range) (compatible : Bool) (costs : List ℕ) (cost : ℕ) : Type 0 where
  stated : r.cost ≡ Some cost → 0 < length costs → IsPicked r compatible costs cost
  least : r.cost ≡ None → compatible ≡ true → IsLeastOf costs cost → IsPicked r compatible costs cost
  greatest : r.cost ≡ None → compatible ≡ false → IsGreatestOf costs cost → IsPicked r compatible costs cost

-- the active range is this one, at its cost
pub record IsActiveAt (net : Network) (b : ℕ) (r : Range) (active : ActiveRange) : Type 0 where
  pub range : active.range ≡ r
  pub costs : RangeCost net b active.range active.cost

-- one of these active ranges is r
pub record HasActive (actives : List ActiveRange) (r : Range) : Type 0 where
  pub active : ActiveRange
  pub among : Contains actives active
  pub range : active.range ≡ r

-- these are some of the active ranges, and among them all that are of the prefix p
pub record AreRangesAround (all : List ActiveRange) (p : Block) (near : List ActiveRange) : Type 0 where
  pub among : (a : ActiveRange) → Contains near a → Contains all a
  pub every : (a : ActiveRange) → Contains all a → a.range.dest ≡ p → Contains near a

-- these are the active ranges of router b, each at its cost
pub record AreActiveRanges (net : Network) (b : ℕ) (actives : List ActiveRange) : Type 0 where
  pub exact : Exactly (λ (a : ActiveRange). RangeCost net b a.range a.cost) actives
  pub every : (r : Range) → IsActive net b r → HasActive actives r

-- the prefix of each active range is among these
abbrev pub HoldRanges : Network → List Block → Type 0
HoldRanges net prefixes = (p : Block) (u : ℕ) → IsActiveRange net p u → Contains prefixes p

-- these are the active ranges of the routers below n
abbrev pub AreRangesBelow : Network → ℕ → List (List ActiveRange) → Type 0
AreRangesBelow net = AreEach (AreActiveRanges net) []
