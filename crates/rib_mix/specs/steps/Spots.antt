-- Where the prefixes that occur stand in a list of prefixes, and what a table has for them.
use Rattle.std.specs.Prelude.{◌≡◌, ℕ, ◌<◌, List, length, slice_get, slice_index_or, slice_set, Option, Some, None, MatchOption}
use Rattle.net_addr.specs.Addresses.{Block}
use Rattle.route_core.specs.Rows.{IsTable, KeptTable, kept_in, kept_number}
use Rattle.rib_mix.specs.declared.both_tables.BothTables.{BothTables}
use Rattle.route_core.specs.declared.table.TableParts.{TableParts}
use Rattle.rib_mix.specs.declared.spots.Spots.{Spots}

-- a place where a prefix stands in a list, or none where it isn't among the first n
abbrev pub IsSpot : List Block → ℕ → Block → Option ℕ → Type 0
IsSpot list n p spot = MatchOption spot ((k : ℕ) → k < n → slice_get list k ≡ Some p → ⊥) (λ k. slice_get list k ≡ Some p)

-- the same for each of some prefixes
pub record AreSpots (prefixes list : List Block) (n : ℕ) (spots : List (Option ℕ)) : Type 0 where
  pub count : length spots ≡ length prefixes
  pub each : (i : ℕ) (p : Block) → slice_get prefixes i ≡ Some p → IsSpot list n p (slice_index_or spots i None)

-- spots with one put at this place, if there is one
abbrev pub with_spot : Option ℕ → ℕ → List (Option ℕ) → List (Option ℕ)
with_spot None spot spots = spots
with_spot (Some place) spot spots = slice_set spots place (Some spot)

-- where some prefixes stand among those of both tables of a router
pub record AreTableSpots (prefixes : List Block) (both : BothTables) (spots : Spots) : Type 0 where
  pub olds : AreSpots prefixes both.old.prefixes.now (length both.old.prefixes.now) spots.olds.items
  pub news : AreSpots prefixes both.new.prefixes.now (length both.new.prefixes.now) spots.news.items

-- where some prefixes stand among those of all tables, which are those of the first ones
abbrev pub AreSharedSpots : List Block → List BothTables → Spots → Type 0
AreSharedSpots prefixes tables spots = (both : BothTables) → slice_get tables 0 ≡ Some both → AreTableSpots prefixes both spots

-- there is room for the spots of so many prefixes
pub record HaveSpots (places : ℕ) (spots : Spots) : Type 0 where
  pub olds : length spots.olds.items ≡ places
  pub news : length spots.news.items ≡ places

-- a table, and where each of the prefixes that occur stands among its own
pub record PlacedTable : Type 0 where
  pub spots : List (Option ℕ)
  pub parts : TableParts

-- these are the spots of some prefixes
pub record IsPlaced (prefixes : List Block) (table : PlacedTable) : Type 0 where
  pub kept : IsTable (kept_in table.parts)
  pub spots : AreSpots prefixes table.parts.prefixes.now (length table.parts.prefixes.now) table.spots

-- the number of the entry for the prefix at a spot, if there is one and the table has an entry for it
abbrev pub number_at_spot : KeptTable → Option ℕ → Option ℕ
number_at_spot kept None = None
number_at_spot kept (Some spot) = kept_number kept spot

-- the number of the entry for the prefix at a place, where the table has one
abbrev pub number_in : PlacedTable → ℕ → Option ℕ
number_in table place = number_at_spot (kept_in table.parts) (slice_index_or table.spots place None)
