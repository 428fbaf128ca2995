-- The longest of some prefixes for each of some addresses, as it is kept from prefix to prefix.
use Rattle.std.specs.Prelude.{◌≡◌, ℕ, ◌<◌, ◌==◌, ◌⊎◌, if◌then◌else◌, List, [], ◌∷◌, ◌++◌, length, slice_index, slice_index_or, Option, None, Some, ◌+◌}
use Rattle.std.specs.Prelude.{slice_get}
use Rattle.std.specs.Prelude.{Contains}
use Rattle.net_addr.specs.Addresses.{Block, ContainsAddress}
use Rattle.net_addr.specs.LongestMatches.{HasNoMatch, LongestAt}
use Rattle.prefix_atoms.specs.declared.longest.Longest.{Longest}

-- no prefix is found
abbrev pub nothing : Longest
nothing = record { number = 0; size = 0 }

-- a prefix of the list contains the address, and is found by its length and the number of its place
pub record IsFoundAt (prefixes : List Block) (numbers : ℕ → ℕ) (a : ℕ) (found : Longest) : Type 0 where
  pub place : ℕ
  pub prefix : Block
  pub stands : slice_get prefixes place ≡ Some prefix
  pub contains : ContainsAddress prefix a
  pub size_is : prefix.len + 1 ≡ found.size
  pub number_is : numbers place ≡ found.number

-- it is the longest of them, or there is none
pub record IsKept (prefixes : List Block) (numbers : ℕ → ℕ) (a : ℕ) (found : Longest) : Type 0 where
  pub there : (found.size ≡ 0) ⊎ IsFoundAt prefixes numbers a found
  pub covers : (q : Block) → Contains prefixes q → ContainsAddress q a → q.len < found.size

-- the number that is found, and this one where none is
abbrev pub key_of : ℕ → Longest → ℕ
key_of none found = if found.size == 0 then none else found.number

-- the number that is found, if any
abbrev pub top_of : Longest → Option ℕ
top_of found = if found.size == 0 then None else Some found.number

-- the same for each of some addresses
pub record AreLongestKept (prefixes : List Block) (numbers : ℕ → ℕ) (addresses : List ℕ) (found : List Longest) : Type 0 where
  pub count : length found ≡ length addresses
  pub each : (i : ℕ) → i < length addresses → IsKept prefixes numbers (slice_index addresses i) (slice_index_or found i nothing)

-- what is kept of some prefixes becomes what is kept of one prefix more, under this number
abbrev pub TakesPrefix : Block → ℕ → List ℕ → List Longest → List Longest → Type 0
TakesPrefix next number addresses old new =
    (prefixes : List Block) (numbers : ℕ → ℕ) → numbers (length prefixes) ≡ number → AreLongestKept prefixes numbers addresses old →
    AreLongestKept (prefixes ++ next ∷ []) numbers addresses new

-- the key of an address is the place of the longest prefix that contains it, or how many prefixes there are where none does
abbrev pub IsKey : List Block → ℕ → ℕ → Type 0
IsKey prefixes a key = ((key ≡ length prefixes) × HasNoMatch (Contains prefixes) a) ⊎ LongestAt prefixes a key

-- the keys of some addresses
pub record AreKeys (prefixes : List Block) (addresses keys : List ℕ) : Type 0 where
  pub count : length keys ≡ length addresses
  pub each : (i : ℕ) → i < length addresses → IsKey prefixes (slice_index addresses i) (slice_index keys i)
