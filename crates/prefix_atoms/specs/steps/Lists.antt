-- What is added to lists of prefixes, where they begin and end, and the longest match of each address.
use Rattle.std.specs.Prelude.{◌≡◌, ℕ, zero, suc, ◌^◌, ◌<◌, ◌≤◌, ◌⊎◌, ◌↔◌, if◌then◌else◌, is_some, List, [], ◌++◌, length, slice_index, slice_index_or}
use Rattle.std.specs.Prelude.{Option, None, Some, All, Contains}
use Rattle.std.specs.List.Sorted.{IsStrictlyIncreasing}
use Rattle.net_addr.specs.Addresses.{Block, default_prefix}
use Rattle.net_addr.specs.Boundaries.{IsBoundary}
use Rattle.net_addr.specs.LongestMatches.{IsBestMatch}
use Rattle.route_core.specs.Rows.{KeptTable, kept_number}
use Rattle.route_core.specs.Tables.{table_prefixes}
use Rattle.route_core.specs.declared.entry.Entry.{Entry}
use Rattle.prefix_atoms.specs.Classes.{Classes, IsClassing}

-- the prefixes of the tables of the first n routers
abbrev pub source_prefixes : (ℕ → List (Block × Entry)) → ℕ → List Block
source_prefixes table zero = []
source_prefixes table (suc n) = source_prefixes table n ++ table_prefixes (table n)

-- the prefix at a place, where a table has an entry for it
abbrev pub seen_prefix : KeptTable → ℕ → Option Block
seen_prefix kept place = if is_some (kept_number kept place) then Some (slice_index_or kept.prefixes place default_prefix) else None

-- the place, where it has none
abbrev pub unseen_place : KeptTable → ℕ → Option ℕ
unseen_place kept place = if is_some (kept_number kept place) then None else Some place

-- the prefixes at all other places than these are among those that were found
pub record AreUnseen (shared : List Block) (unseen : List ℕ) (found : List Block) : Type 0 where
  pub places : All (λ (place : ℕ). place < length shared) unseen
  pub seen : (place : ℕ) → place < length shared → Contains unseen place ⊎ Contains found (slice_index_or shared place default_prefix)

-- a list of prefixes gains others: it has those that it had, and these
abbrev pub GainsPrefixes : List Block → List Block → List Block → Type 0
GainsPrefixes old new more = (p : Block) → Contains new p ↔ (Contains old p ⊎ Contains more p)

-- the cuts of prefixes, in ascending order: 0, and each address that is a boundary of one of them
pub record AreCuts (prefixes : List Block) (cuts : List ℕ) : Type 0 where
  pub ascending : IsStrictlyIncreasing cuts
  pub first : Contains cuts 0
  pub below : All (λ c. c < 2 ^ 32) cuts
  pub boundaries : (p : Block) (c : ℕ) → Contains prefixes p → IsBoundary p c → c < 2 ^ 32 → Contains cuts c

-- a list of numbers gains the boundaries of a prefix, and loses nothing
pub record GainsBoundaries (old new : List ℕ) (p : Block) : Type 0 where
  pub kept : (c : ℕ) → Contains old c → Contains new c
  pub gained : (c : ℕ) → IsBoundary p c → c < 2 ^ 32 → Contains new c

-- a place in an ascending list: the numbers before it are below x, the others aren't
pub record IsPlaceOf (numbers : List ℕ) (x place : ℕ) : Type 0 where
  pub within : place ≤ length numbers
  pub before : (k : ℕ) → k < place → slice_index numbers k < x
  pub after : (k : ℕ) → place ≤ k → k < length numbers → x ≤ slice_index numbers k

-- for each address the longest prefix that contains it
pub record AreTargets (prefixes : List Block) (addresses : List ℕ) (targets : List (Option Block)) : Type 0 where
  pub count : length targets ≡ length addresses
  pub each : (k : ℕ) → k < length addresses → IsBestMatch (Contains prefixes) (slice_index addresses k) (slice_index_or targets k None)

-- the classes of a list of prefixes, each with the longest of some prefixes that contains its sample
pub record AreClassesOf (prefixes originated : List Block) (c : Classes) : Type 0 where
  pub prefixes_are : c.prefixes ≡ prefixes
  pub classing : IsClassing c
  pub targets : AreTargets originated c.samples c.targets
