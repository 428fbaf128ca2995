-- What routers use for the first prefixes of sorts, by the kinds that their tables have of these.
use lib.Dec.{ltb}
use Rattle.std.specs.Prelude.{◌≡◌, ℕ, ◌<◌, ◌+◌, ◌^◌, ◌==◌, if◌then◌else◌, List, [], Contains, length, slice_get, slice_index_or}
use Rattle.std.specs.Prelude.{Option, Some, None}
use Rattle.std.specs.Bool.{OnFalse}
use Rattle.net_model.specs.Network.{Network}
use Rattle.net_model.specs.Refusals.{IsNetwork}
use Rattle.net_model.specs.declared.bounds.TheConstants.{ISIS_DISTANCE, MOST_DISTANCE}
use Rattle.route_core.specs.Rows.{KeptTable, kept_in}
use Rattle.rib_mix.specs.Cells.{cell_at, no_cell}
use Rattle.rib_mix.specs.steps.Homes.{is_home}
use Rattle.rib_mix.specs.steps.Likeness.{PlacedPrefixes}
use Rattle.rib_mix.specs.steps.Sites.{HasOspfDistance}
use Rattle.rib_mix.specs.steps.Uses.{Has, cell_of_two, cell_over, connected_cell}
use Rattle.rib_mix.specs.declared.both_tables.BothTables.{BothTables}
use Rattle.rib_mix.specs.declared.cell.Cell.{Cell}
use Rattle.rib_mix.specs.declared.kinds.Kinds.{Kinds}
use Rattle.rib_mix.specs.declared.kinds.TheConstants.{NO_KIND}
use Rattle.rib_mix.specs.declared.own.OfRouter.{OfRouter}
use Rattle.rib_mix.specs.declared.own.Shared.{Shared}
use Rattle.rib_mix.specs.declared.sorts.Sorts.{Sorts}
use Rattle.rib_mix.specs.declared.spots.BothSpots.{BothSpots}

-- the kind of the prefix at a spot, and the greatest number where there is none
abbrev pub kind_at_spot : List ℕ → Option ℕ → ℕ
kind_at_spot kinds None = NO_KIND
kind_at_spot kinds (Some spot) = slice_index_or kinds spot NO_KIND

-- the kinds of the prefix at these spots in a router's tables
abbrev pub kinds_of : OfRouter → BothSpots → Kinds
kinds_of own spots = record { old = kind_at_spot own.old_kinds.now spots.old; new = kind_at_spot own.new_kinds.now spots.new }

-- the router before the one at this place has these kinds of all prefixes
pub record GoesOn (all : List OfRouter) (place : ℕ) (olds news : List ℕ) : Type 0 where
  pub before : ℕ
  pub next : place ≡ before + 1
  pub one : OfRouter
  pub at : slice_get all before ≡ Some one
  pub olds_are : one.old_kinds.now ≡ olds
  pub news_are : one.new_kinds.now ≡ news

-- each router begins other kinds, or has those of the one before
abbrev pub AreByLanes : List OfRouter → Type 0
AreByLanes all =
    (u : ℕ) (own : OfRouter) → slice_get all u ≡ Some own → OnFalse own.begins (GoesOn all u own.old_kinds.now own.new_kinds.now)

-- all kinds and entries of a table have numbers
pub record HasFew (kept : KeptTable) : Type 0 where
  pub kinds : length kept.numbers < 2 ^ 32
  pub entries : length kept.entries + 2 < 2 ^ 31

-- what tells what a router uses that has these tables and this OSPF distance
pub record TellsOfRouter (both : BothTables) (ospf : ℕ) (own : OfRouter) : Type 0 where
  pub old_kinds_are : own.old_kinds.now ≡ both.old.kinds.now
  pub new_kinds_are : own.new_kinds.now ≡ both.new.kinds.now
  pub olds_are : own.olds.now ≡ (if ospf == MOST_DISTANCE then [] else both.old.numbers.now)
  pub news_are : own.news.now ≡ both.new.numbers.now
  pub first : own.old_first ≡ ltb ospf ISIS_DISTANCE
  pub few_olds : HasFew (kept_in both.old)
  pub few_news : HasFew (kept_in both.new)

-- the same of a router of a network
pub record IsOwnAt (net : Network) (u : ℕ) (both : BothTables) (own : OfRouter) : Type 0 where
  pub ospf : ℕ
  pub network : IsNetwork net
  pub distance : HasOspfDistance net u ospf
  pub tells : TellsOfRouter both ospf own

-- the same of each router that has tables
abbrev pub AreEachOwn : Network → List BothTables → List OfRouter → Type 0
AreEachOwn net tables all =
    (u : ℕ) (own : OfRouter) → slice_get all u ≡ Some own → (both : BothTables) → slice_get tables u ≡ Some both →
    IsOwnAt net u both own

-- the same of as many, by their lanes
pub record AreAllOwn (net : Network) (tables : List BothTables) (all : List OfRouter) : Type 0 where
  pub count : length all ≡ length tables
  pub each : AreEachOwn net tables all
  pub lanes : AreByLanes all

-- each of these numbers has a code
abbrev pub HaveCodes : List (Option ℕ) → Type 0
HaveCodes numbers = (kind number : ℕ) → slice_index_or numbers kind None ≡ Some number → number + 2 < 2 ^ 31

-- each number of a router's tables has one
pub record HasCodes (own : OfRouter) : Type 0 where
  pub olds : HaveCodes own.olds.now
  pub news : HaveCodes own.news.now

-- the same of each router
abbrev pub HaveAllCodes : List OfRouter → Type 0
HaveAllCodes all = (u : ℕ) (own : OfRouter) → slice_get all u ≡ Some own → HasCodes own

-- what a router uses for the prefix at these spots, which isn't connected, over what it uses for the parent
abbrev pub entry_cell : OfRouter → BothSpots → Cell → Cell
entry_cell own spots up =
    cell_of_two (slice_index_or own.olds.now (kinds_of own spots).old None)
    (slice_index_or own.news.now (kinds_of own spots).new None) own.old_first up

-- the same for each of the first n routers
abbrev pub AreEntryCells : List OfRouter → BothSpots → List Cell → ℕ → List Cell → Type 0
AreEntryCells all spots up n column = (u : ℕ) (own : OfRouter) → u < n → slice_get all u ≡ Some own →
    slice_index_or column u no_cell ≡ entry_cell own spots (slice_index_or up u no_cell)

-- a connected prefix is used at those routers that are seen, and nothing else changes
pub record Connects (seen : List ℕ) (old new : List Cell) : Type 0 where
  pub count : length new ≡ length old
  pub homes : (u : ℕ) → u < length old → Contains seen u → slice_index_or new u no_cell ≡ connected_cell
  pub others : (u : ℕ) → (Contains seen u → ⊥) → slice_index_or new u no_cell ≡ slice_index_or old u no_cell

-- what router u has for the prefix at a place
abbrev pub has_in : PlacedPrefixes → ℕ → OfRouter → ℕ → Has
has_in all u own place = record {
  connected = is_home all.homes u place;
  old = slice_index_or own.olds.now (kind_at_spot own.old_kinds.now (slice_index_or all.spots.olds.items place None)) None;
  new = slice_index_or own.news.now (kind_at_spot own.new_kinds.now (slice_index_or all.spots.news.items place None)) None;
}

-- there are spots and homes for this place
pub record IsPlaceOfAll (shared : Shared) (place : ℕ) : Type 0 where
  pub olds : place < length shared.spots.now.olds.items
  pub news : place < length shared.spots.now.news.items
  pub homes : place < length shared.homes.now

-- what each router uses for the prefix at a place, over what it uses for the parent
abbrev pub AreColumnCells : PlacedPrefixes → List OfRouter → ℕ → List Cell → List Cell → Type 0
AreColumnCells all owns place up column = (u : ℕ) (own : OfRouter) → slice_get owns u ≡ Some own →
    slice_index_or column u no_cell ≡ cell_over (has_in all u own place) own.old_first (slice_index_or up u no_cell)

-- what router u uses for each of the first n sorts, of what it has for the first prefix and uses for the sort of the parents
pub record AreKindCells (all : PlacedPrefixes) (u : ℕ) (own : OfRouter) (sorts : Sorts) (n : ℕ) (cells : List Cell) : Type 0 where
  pub count : length cells ≡ n
  pub each : (sort : ℕ) → sort < n → slice_index_or cells sort no_cell ≡
      cell_over (has_in all u own (slice_index_or sorts.firsts.items sort 0)) own.old_first
      (cell_at cells (slice_index_or sorts.parents.items sort None))

-- the same of each router
abbrev pub AreKindRows : PlacedPrefixes → List OfRouter → Sorts → ℕ → List (List Cell) → Type 0
AreKindRows all owns sorts n rows =
    (u : ℕ) (own : OfRouter) → slice_get owns u ≡ Some own → AreKindCells all u own sorts n (slice_index_or rows u [])
