-- Numbering by first appearance.
use Rattle.std.specs.Prelude.{◌≡◌, ◌≢◌, ℕ, ◌<◌, List, [], ◌∷◌, ◌++◌, length, slice_index, slice_set, Option, Some, None}
use Rattle.std.specs.List.Sorted.{IsStrictlyIncreasing}
use Rattle.net_addr.specs.Addresses.{Block}
use Rattle.net_addr.specs.Boundaries.{SameBlocksContain}

-- equal keys have one number: numbers go by first appearance, and `firsts` has the place of each
pub record IsNumbering (keys numbers firsts : List ℕ) : Type 0 where
  pub count : length numbers ≡ length keys
  pub ascending : IsStrictlyIncreasing firsts
  pub within : (k : ℕ) → k < length firsts → slice_index firsts k < length keys
  pub first : (k j : ℕ) → k < length firsts → j < slice_index firsts k → slice_index keys j ≢ slice_index keys (slice_index firsts k)
  pub numbered : (j : ℕ) → j < length keys → slice_index numbers j < length firsts
  pub same : (j : ℕ) → j < length keys → slice_index keys (slice_index firsts (slice_index numbers j)) ≡ slice_index keys j

-- cuts in one class have one number: numbers go by first appearance, and `firsts` has the place of each
pub record NumbersClasses (prefixes : List Block) (cuts numbers firsts : List ℕ) : Type 0 where
  pub count : length numbers ≡ length cuts
  pub ascending : IsStrictlyIncreasing firsts
  pub within : (k : ℕ) → k < length firsts → slice_index firsts k < length cuts
  pub first : (k j : ℕ) → k < length firsts → j < slice_index firsts k →
      SameBlocksContain prefixes (slice_index cuts j) (slice_index cuts (slice_index firsts k)) → ⊥
  pub numbered : (j : ℕ) → j < length cuts → slice_index numbers j < length firsts
  pub same : (j : ℕ) → j < length cuts → SameBlocksContain prefixes (slice_index cuts (slice_index firsts (slice_index numbers j))) (slice_index cuts j)

-- how far keys are numbered: the number that each key has, and the first place of each number
pub record Tally : Type 0 where
  pub seen : List (Option ℕ)
  pub firsts : List ℕ

-- what is done with the key at a place: it keeps the number that it has, or takes the next one
abbrev pub TakesNumber : Option ℕ → ℕ → ℕ → ℕ → Tally → Tally → Type 0
TakesNumber (Some k) key place number old new = (number ≡ k) × (new.seen ≡ old.seen) × (new.firsts ≡ old.firsts)
TakesNumber None key place number old new =
    (number ≡ length old.firsts) × (new.seen ≡ slice_set old.seen key (Some (length old.firsts))) × (new.firsts ≡ old.firsts ++ place ∷ [])

-- the numbers at these places of a list
pub record ArePicked (numbers places picked : List ℕ) : Type 0 where
  pub count : length picked ≡ length places
  pub each : (k : ℕ) → k < length places → slice_index picked k ≡ slice_index numbers (slice_index places k)
