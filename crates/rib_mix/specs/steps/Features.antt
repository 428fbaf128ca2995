-- What tells prefixes apart: the kinds that tables have of them, and the routers at which they are connected.
use Rattle.std.specs.Prelude.{◌≡◌, ℕ, ◌<◌, ◌+◌, [], Bool, List, length, slice_get, slice_index_or}
use Rattle.std.specs.Prelude.{Option, Some, None, All, Contains}
use Rattle.std.specs.Bool.{OnFalse}
use Rattle.route_core.specs.Rows.{kept_in}
use Rattle.route_core.specs.declared.table.TableParts.{TableParts}
use Rattle.rib_mix.specs.steps.Spots.{HaveSpots, number_at_spot}
use Rattle.rib_mix.specs.declared.both_tables.BothTables.{BothTables}
use Rattle.rib_mix.specs.declared.features.Features.{Features}
use Rattle.rib_mix.specs.declared.lanes.Lane.{Lane}
use Rattle.rib_mix.specs.declared.lanes.Lanes.{Lanes}

-- one of the lanes has these kinds
pub record HasLane (lanes : List Lane) (kinds : List ℕ) : Type 0 where
  pub lane : Lane
  pub among : Contains lanes lane
  pub kinds_are : lane.kinds.now ≡ kinds

-- a router's tables have lanes among these
pub record HaveLanesOf (lanes : Lanes) (both : BothTables) : Type 0 where
  pub olds : HasLane lanes.olds.items both.old.kinds.now
  pub news : HasLane lanes.news.items both.new.kinds.now

-- the tables of two routers have the same kinds
pub record HaveSameKinds (one other : BothTables) : Type 0 where
  pub olds : one.old.kinds.now ≡ other.old.kinds.now
  pub news : one.new.kinds.now ≡ other.new.kinds.now

-- the tables of the router before this one have the same kinds
pub record HasKindsBefore (tables : List BothTables) (u : ℕ) (both : BothTables) : Type 0 where
  pub before : ℕ
  pub next : u ≡ before + 1
  pub one : BothTables
  pub at : slice_get tables before ≡ Some one
  pub same : HaveSameKinds one both

-- of each of the first n routers: it begins other kinds, or has those of the one before
pub record AreBegins (tables : List BothTables) (n : ℕ) (begins : List Bool) : Type 0 where
  pub count : length begins ≡ n
  pub each : (u : ℕ) (flag : Bool) → slice_get begins u ≡ Some flag → (both : BothTables) → slice_get tables u ≡ Some both
      → OnFalse flag (HasKindsBefore tables u both)

-- these are the lanes of the first n routers' tables
pub record AreLanesOf (tables : List BothTables) (n : ℕ) (lanes : Lanes) : Type 0 where
  pub begins : AreBegins tables n lanes.begins.items
  pub have : (u : ℕ) (both : BothTables) → u < n → slice_get tables u ≡ Some both → HaveLanesOf lanes both

-- the prefixes at two spots are of one kind in a lane
abbrev pub IsOneAt : ℕ → ℕ → Lane → Type 0
IsOneAt one other lane = slice_index_or lane.kinds.now one 0 ≡ slice_index_or lane.kinds.now other 0

-- they are in each lane, or there is neither
abbrev pub AreOneKind : List Lane → Option ℕ → Option ℕ → Type 0
AreOneKind lanes None None = Unit {0}
AreOneKind lanes None (Some other) = ⊥
AreOneKind lanes (Some one) None = ⊥
AreOneKind lanes (Some one) (Some other) = All (IsOneAt one other) lanes

-- there are the features of so many prefixes
pub record HaveFeatures (places : ℕ) (features : Features) : Type 0 where
  pub spots : HaveSpots places features.spots.now
  pub homes : length features.homes.items ≡ places

-- the tables of these lanes have the same at two spots
abbrev pub HaveSameNumbers : List Lane → Option ℕ → Option ℕ → Type 0
HaveSameNumbers lanes one other =
    (parts : TableParts) → HasLane lanes parts.kinds.now → number_at_spot (kept_in parts) one ≡ number_at_spot
    (kept_in parts) other

-- the prefixes at two places have the same features
pub record HaveSameFeatures (features : Features) (one other : ℕ) : Type 0 where
  pub olds : HaveSameNumbers features.lanes.now.olds.items (slice_index_or features.spots.now.olds.items one None)
      (slice_index_or features.spots.now.olds.items other None)
  pub news : HaveSameNumbers features.lanes.now.news.items (slice_index_or features.spots.now.news.items one None)
      (slice_index_or features.spots.now.news.items other None)
  pub homes : slice_index_or features.homes.items one [] ≡ slice_index_or features.homes.items other []
