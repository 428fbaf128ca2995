-- How tables are kept: prefixes, of each its kind, of each kind the number of its entry; and the rows that this stands for.
use Rattle.std.specs.Prelude.{◌≡◌, ◌≢◌, ℕ, zero, suc, ◌<◌, List, [], ◌∷◌, ◌++◌, length, map, All, AllPairs, Option, None, Some, slice_index_or}
use Rattle.net_addr.specs.Addresses.{Block, default_prefix}
use Rattle.route_core.specs.Tables.{HasDistinctPrefixes}
use Rattle.route_core.specs.declared.entry.Entry.{Entry}
use Rattle.route_core.specs.declared.entry.Entry.TheVariants.{Discard}
use Rattle.route_core.specs.declared.table.TableParts.{TableParts}

-- a table as it is kept: prefixes, of each its kind, of each kind the number of its entry where it has one, and entries
pub record KeptTable : Type 0 where
  pub prefixes : List Block
  pub kinds : List ℕ
  pub numbers : List (Option ℕ)
  pub entries : List Entry

-- a row of a table: the place of its prefix, and the number of its entry
pub record Row : Type 0 where
  pub place : ℕ
  pub number : ℕ

-- the number of the entry for the prefix at a place, where it has one: that of its kind
abbrev pub kept_number : KeptTable → ℕ → Option ℕ
kept_number kept place = slice_index_or kept.numbers (slice_index_or kept.kinds place 0) None

-- the row of a place, where there is a number
abbrev pub row_with : ℕ → Option ℕ → List Row
row_with place None = []
row_with place (Some number) = record { place = place; number = number } ∷ []

-- the rows of the first n places
abbrev pub rows_below : KeptTable → ℕ → List Row
rows_below kept zero = []
rows_below kept (suc n) = rows_below kept n ++ row_with n (kept_number kept n)

-- all its rows
abbrev pub rows_in : KeptTable → List Row
rows_in kept = rows_below kept (length kept.prefixes)

-- the prefix of a row
abbrev pub row_prefix : List Block → Row → Block
row_prefix prefixes row = slice_index_or prefixes row.place default_prefix

-- what a row stands for: its prefix and its entry
abbrev pub listed_row : List Block → List Entry → Row → Block × Entry
listed_row prefixes entries row = (row_prefix prefixes row, slice_index_or entries row.number Discard)

-- what rows stand for, in their order
abbrev pub listed_rows : List Block → List Entry → List Row → List (Block × Entry)
listed_rows prefixes entries rows = map (listed_row prefixes entries) rows

-- the prefixes of rows
abbrev pub row_prefixes : List Block → List Row → List Block
row_prefixes prefixes rows = map (row_prefix prefixes) rows

-- the entries of a table, each with its prefix
abbrev pub listed : KeptTable → List (Block × Entry)
listed kept = listed_rows kept.prefixes kept.entries (rows_in kept)

-- each row has the place of a prefix
abbrev pub ArePlacesBelow : List Block → List Row → Type 0
ArePlacesBelow prefixes rows = All (λ (row : Row). row.place < length prefixes) rows

-- each row has the number of an entry
abbrev pub AreNumbersBelow : List Entry → List Row → Type 0
AreNumbersBelow entries rows = All (λ (row : Row). row.number < length entries) rows

-- the rows are those of a table: each has a prefix and an entry, and no two are for one prefix
pub record AreTableRows (prefixes : List Block) (entries : List Entry) (rows : List Row) : Type 0 where
  pub places : ArePlacesBelow prefixes rows
  pub numbers : AreNumbersBelow entries rows
  pub distinct : HasDistinctPrefixes (listed_rows prefixes entries rows)

-- what every table keeps: no prefix twice, of each a kind, and of each kind the number of an entry, where it has one
pub record IsTable (kept : KeptTable) : Type 0 where
  pub distinct : AllPairs (λ (p q : Block). p ≢ q) kept.prefixes
  pub kinds : length kept.kinds ≡ length kept.prefixes
  pub kinds_below : All (λ (kind : ℕ). kind < length kept.numbers) kept.kinds
  pub numbers_below : (kind number : ℕ) → slice_index_or kept.numbers kind None ≡ Some number → number < length kept.entries

-- the table that the parts are of
abbrev pub kept_in : TableParts → KeptTable
kept_in parts = record { prefixes = parts.prefixes.now; kinds = parts.kinds.now; numbers = parts.numbers.now; entries = parts.entries.now }
