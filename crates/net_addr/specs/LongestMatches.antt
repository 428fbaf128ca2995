-- The longest match (RFC 1812, section 5.2.4.3).
use Rattle.std.specs.Prelude.{◌≡◌, ℕ, ◌<◌, ◌≤◌, List, slice_get, Option, Some, None, Contains, MatchOption}
use Rattle.net_addr.specs.Addresses.{Block, ContainsAddress}
use Rattle.net_addr.specs.declared.matches.Match.{Match}

-- the longest match of an address: a prefix on offer that contains it, and none on offer that contains it is longer
pub record IsLongestMatch (offered : Block → Type 0) (a : ℕ) (p : Block) : Type 0 where
  pub is_offered : offered p
  pub contains : ContainsAddress p a
  pub longest : (q : Block) → offered q → ContainsAddress q a → q.len ≤ p.len

-- no prefix on offer contains the address
abbrev pub HasNoMatch : (Block → Type 0) → ℕ → Type 0
HasNoMatch offered a = (p : Block) → offered p → ContainsAddress p a → ⊥

-- the longest match, none where no prefix on offer contains the address
abbrev pub IsBestMatch : (Block → Type 0) → ℕ → Option Block → Type 0
IsBestMatch offered a best = MatchOption best (HasNoMatch offered a) (IsLongestMatch offered a)

-- the prefix at a place of a list is the longest match among those of the list
pub record LongestAt (prefixes : List Block) (a place : ℕ) : Type 0 where
  pub prefix : Block
  pub stands : slice_get prefixes place ≡ Some prefix
  pub match : IsLongestMatch (Contains prefixes) a prefix

-- such a place, with the length of its prefix
pub record MatchAt (prefixes : List Block) (a : ℕ) (found : Match) : Type 0 where
  pub at : LongestAt prefixes a found.place
  pub len_is : at.prefix.len ≡ found.len

-- the place of the longest match in a list, none where no prefix of the list contains the address
abbrev pub IsMatch : List Block → ℕ → Option Match → Type 0
IsMatch prefixes a found = MatchOption found (HasNoMatch (Contains prefixes) a) (MatchAt prefixes a)

-- the longer of two matches, the earlier one where they are as long
abbrev pub TakesLonger : Option Match → Match → Match → Type 0
TakesLonger None next taken = taken ≡ next
TakesLonger (Some old) next taken = (old.len < next.len → taken ≡ next) × (next.len ≤ old.len → taken ≡ old)
