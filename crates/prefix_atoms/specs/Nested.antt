-- Prefixes in each other: which stands before which in a list, and the shorter one that each stands in.
use Rattle.std.specs.Prelude.{◌≡◌, ℕ, ◌<◌, ◌⊎◌, List, length, slice_get, slice_index, Option, Some, All, AllPairs, Contains, IfSome, MatchOption}
use Rattle.net_addr.specs.Addresses.{Block, IsBlock}
use Rattle.net_addr.specs.LongestMatches.{HasNoMatch, IsLongestMatch, LongestAt}

-- a prefix stands before another: it begins before it, or with it and is shorter
abbrev pub StandsBefore : Block → Block → Type 0
StandsBefore p q = (p.base < q.base) ⊎ ((p.base ≡ q.base) × (p.len < q.len))

-- prefixes in ascending order, each once
abbrev pub AreAscendingPrefixes : List Block → Type 0
AreAscendingPrefixes prefixes = AllPairs StandsBefore prefixes

-- the prefixes of a list that are shorter than this length
abbrev pub IsShorter : List Block → ℕ → Block → Type 0
IsShorter prefixes len q = Contains prefixes q × (q.len < len)

-- the longest match of an address among the shorter prefixes of a list stands at this place
pub record LongestShorter (prefixes : List Block) (len a place : ℕ) : Type 0 where
  pub prefix : Block
  pub stands : slice_get prefixes place ≡ Some prefix
  pub match : IsLongestMatch (IsShorter prefixes len) a prefix

-- it stands at this place, or there is none
abbrev pub IsNextShorter : List Block → ℕ → ℕ → Option ℕ → Type 0
IsNextShorter prefixes len a next = MatchOption next (HasNoMatch (IsShorter prefixes len) a) (LongestShorter prefixes len a)

-- the parent of the prefix at a place: the longest shorter prefix that contains its base stands at this earlier place, or there is none
pub record IsParent (prefixes : List Block) (place : ℕ) (p : Block) (parent : Option ℕ) : Type 0 where
  pub next : IsNextShorter prefixes p.len p.base parent
  pub before : IfSome parent (λ j. j < place)

-- the parents of the first prefixes of a list
abbrev pub AreParents : List Block → List (Option ℕ) → Type 0
AreParents prefixes parents =
    (i : ℕ) (p : Block) (parent : Option ℕ) → slice_get prefixes i ≡ Some p → slice_get parents i ≡ Some parent → IsParent prefixes i p parent

-- the longest match of an address stands at this place, or there is none
abbrev pub IsTop : List Block → ℕ → Option ℕ → Type 0
IsTop prefixes a top = MatchOption top (HasNoMatch (Contains prefixes) a) (LongestAt prefixes a)

-- the longest match of each of some addresses
pub record AreTops (prefixes : List Block) (addresses : List ℕ) (tops : List (Option ℕ)) : Type 0 where
  pub count : length tops ≡ length addresses
  pub each : (k : ℕ) (top : Option ℕ) → slice_get tops k ≡ Some top → IsTop prefixes (slice_index addresses k) top

-- prefixes in ascending order, with the parent of each
pub record AreNested (prefixes : List Block) (parents : List (Option ℕ)) : Type 0 where
  pub blocks : All IsBlock prefixes
  pub ascending : AreAscendingPrefixes prefixes
  pub count : length parents ≡ length prefixes
  pub parents_are : AreParents prefixes parents
