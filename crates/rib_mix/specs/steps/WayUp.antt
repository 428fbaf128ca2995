-- What a router uses for each prefix that occurs, of what it has for the prefix and for those that it lies in.
use lib.Dec.{ltb}
use Rattle.std.specs.Prelude.{◌≡◌, ℕ, Bool, ◌<◌, ◌≤◌, ◌⊎◌, ◌↔◌, ◌==◌, IsTrue, if◌then◌else◌, List, length, slice_get, slice_index_or, Option}
use Rattle.std.specs.Prelude.{Some, None, Contains, MatchOption}
use Rattle.net_addr.specs.Addresses.{Block, ContainsAddress}
use Rattle.net_model.specs.Network.{Network, Connected}
use Rattle.net_model.specs.declared.bounds.TheConstants.{ISIS_DISTANCE, MOST_DISTANCE}
use Rattle.route_core.specs.Rows.{IsTable, kept_in, rows_in}
use Rattle.igp_theory.specs.Forwarding.{Usable, Kind}
use Rattle.igp_theory.specs.declared.phase.Phase.{Phase}
use Rattle.prefix_atoms.specs.Longest.{number_at}
use Rattle.prefix_atoms.specs.Nested.{IsTop}
use Rattle.rib_mix.specs.Cells.{IsCell, IsUsable, use_in, cell_at, no_cell}
use Rattle.rib_mix.specs.Sites.{Site}
use Rattle.rib_mix.specs.steps.Sites.{CountsAt, HasOspfDistance, IsLawfulSite, prefixes_in, AreAmong}
use Rattle.rib_mix.specs.steps.Spots.{AreTableSpots, PlacedTable, number_in}
use Rattle.rib_mix.specs.steps.Uses.{Has, cell_over}
use Rattle.rib_mix.specs.steps.Sorts.{sort_at}
use Rattle.rib_mix.specs.declared.both_tables.BothTables.{BothTables}
use Rattle.rib_mix.specs.declared.cell.Cell.{Cell}
use Rattle.rib_mix.specs.declared.sorts.Sorts.{Sorts}
use Rattle.rib_mix.specs.declared.spots.Spots.{Spots}
use Rattle.rib_mix.specs.declared.used.Used.{Used}
use Rattle.rib_mix.specs.declared.used.Used.TheVariants as used

-- the number of a prefix among own ones, or none where it isn't one
abbrev pub IsOwnNumber : List Block → (ℕ → ℕ) → Block → Option ℕ → Type 0
IsOwnNumber own numbers p number =
    MatchOption number (Contains own p → ⊥) (λ n. (place : ℕ) × (slice_get own place ≡ Some p) × (numbers place ≡ n))

-- the numbers of all prefixes of a list, by their places
abbrev pub AreOwnNumbers : List Block → List Block → (ℕ → ℕ) → (ℕ → Option ℕ) → Type 0
AreOwnNumbers prefixes own numbers marks = (i : ℕ) (p : Block) → slice_get prefixes i ≡ Some p → IsOwnNumber own numbers p (marks i)

-- the entries that count in a phase for the address and whose prefixes are no longer than this
abbrev pub UpTo : Site → Phase → ℕ → Kind
UpTo s phase len q d x = CountsAt s phase q d x × ContainsAddress q s.a × (q.len ≤ len)

-- this is the best of the entries of a kind: the longest, and of equally long ones that of the lowest distance
pub record IsBestOfKind (s : Site) (kind : Kind) (way : Used) : Type 0 where
  pub entry : Usable
  pub is : IsUsable s.tables.old.entries.now s.tables.new.entries.now way entry
  pub prefix : Block
  pub distance : ℕ
  pub among : kind prefix distance entry
  pub longest : (q : Block) (d : ℕ) (x : Usable) → kind q d x → q.len ≤ prefix.len
  pub lowest : (q : Block) (d : ℕ) (x : Usable) → kind q d x → q.len ≡ prefix.len → distance ≤ d

-- it is, or nothing is used and there is none
abbrev pub IsBestUse : Site → Kind → Used → Type 0
IsBestUse s kind way = ((way ≡ used.Nothing) × ((q : Block) (d : ℕ) (x : Usable) → kind q d x → ⊥)) ⊎ IsBestOfKind s kind way

-- what is used in each phase of the entries whose prefixes are no longer than this
abbrev pub IsCellUpTo : Site → ℕ → Cell → Type 0
IsCellUpTo s len cell = (phase : Phase) → IsBestUse s (UpTo s phase len) (use_in cell phase)

-- what a router has: at which places prefixes are connected, both tables with their spots, and its OSPF distance
pub record Own : Type 0 where
  pub connected : ℕ → Bool
  pub old : PlacedTable
  pub new : PlacedTable
  pub ospf : ℕ

-- the number of its entry of the old table at a place, where that table counts
abbrev pub old_in : Own → ℕ → Option ℕ
old_in own place = if own.ospf == MOST_DISTANCE then None else number_in own.old place

-- what it has for the prefix at a place
abbrev pub has_at : Own → ℕ → Has
has_at own place = record { connected = own.connected place; old = old_in own place; new = number_in own.new place }

-- these are the places of the prefixes that are connected at router u
abbrev pub AreConnectedAt : Network → ℕ → List Block → (ℕ → Bool) → Type 0
AreConnectedAt net u prefixes connected =
    (place : ℕ) (p : Block) → slice_get prefixes place ≡ Some p → IsTrue (connected place) ↔ Connected net u p

-- it is asked for at the router that has this, whose prefixes are among these
pub record IsOwnSite (prefixes : List Block) (own : Own) (s : Site) : Type 0 where
  pub lawful : IsLawfulSite s
  pub distance : HasOspfDistance s.net s.u own.ospf
  pub among : (p : Block) → Connected s.net s.u p → Contains prefixes p
  pub old_among : AreAmong prefixes (prefixes_in s.tables.old)
  pub new_among : AreAmong prefixes (prefixes_in s.tables.new)
  pub connected : AreConnectedAt s.net s.u prefixes own.connected
  pub old : AreOwnNumbers prefixes (prefixes_in s.tables.old) (number_at (rows_in (kept_in s.tables.old))) (number_in own.old)
  pub new : AreOwnNumbers prefixes (prefixes_in s.tables.new) (number_at (rows_in (kept_in s.tables.new))) (number_in own.new)

-- what is used for the addresses of the prefix at a place of the prefixes that are no longer, if there is one
abbrev pub IsCellFor : List Block → Own → Option ℕ → Cell → Type 0
IsCellFor prefixes own None cell = cell ≡ no_cell
IsCellFor prefixes own (Some place) cell =
    (p : Block) (s : Site) → slice_get prefixes place ≡ Some p → IsOwnSite prefixes own s → ContainsAddress p s.a → IsCellUpTo s p.len cell

-- the same for each of the first n prefixes, by the cells of their sorts
abbrev pub AreAllCells : List Block → Own → List ℕ → List Cell → ℕ → Type 0
AreAllCells prefixes own of_places cells n =
    (place : ℕ) → place < n → IsCellFor prefixes own (Some place) (cell_at cells (sort_at of_places (Some place)))

-- the entries of the old table come first
abbrev pub is_old_first : Own → Bool
is_old_first own = ltb own.ospf ISIS_DISTANCE

-- what is used for each of the first n sorts, of what is had for its first prefix and used for the sort of the parents
pub record AreSortCells (own : Own) (sorts : Sorts) (n : ℕ) (cells : List Cell) : Type 0 where
  pub count : length cells ≡ n
  pub each : (sort : ℕ) → sort < n → slice_index_or cells sort no_cell ≡
      cell_over (has_at own (slice_index_or sorts.firsts.items sort 0)) (is_old_first own) (cell_at cells
      (slice_index_or sorts.parents.items sort None))

-- the prefixes of router u are among these, of which the spots in its tables are known
pub record IsOwnAmong (prefixes : List Block) (net : Network) (u : ℕ) (both : BothTables) (spots : Spots) : Type 0 where
  pub connected : (p : Block) → Connected net u p → Contains prefixes p
  pub old : AreAmong prefixes (prefixes_in both.old)
  pub new : AreAmong prefixes (prefixes_in both.new)
  pub old_table : IsTable (kept_in both.old)
  pub new_table : IsTable (kept_in both.new)
  pub spots_are : AreTableSpots prefixes both spots

-- what a router uses for each address, by the site of each, is the cell of the sort of its longest prefix
abbrev pub AreOwnCells : List Block → List ℕ → (ℕ → Site) → List Cell → Type 0
AreOwnCells prefixes of_places at cells =
    (a : ℕ) (top : Option ℕ) → IsTop prefixes a top → IsCell (at a) (cell_at cells (sort_at of_places top))
