-- The items that the words of a line name.
use Rattle.std.specs.Prelude.{◌≡◌, ℕ, ◌+◌, ◌*◌, ◌<◌, ◌≤◌, List, length, slice_index, slice_index_or, take, Option, Some, None, MatchOption, Contains, ◌⊎◌}
use Rattle.net_model.specs.Network.{Network}
use Rattle.change_orders.specs.ChangeWords.{IsChangeNumber, change_word, NamesItem}

-- what was found of a word: its item, or that it has none
abbrev pub IsItemFound : Network → List ℕ → Option ℕ → Type 0
IsItemFound net word = λ found. MatchOption found ((item : ℕ) → NamesItem net word item → ⊥) (NamesItem net word)

-- a word ends as that of change c, and its front is the name
pub record EndsAsChange (word : List ℕ) (c : ℕ) : Type 0 where
  pub name : List ℕ
  pub is_number : IsChangeNumber c
  pub word_is : word ≡ change_word name c

-- of the items that were found, up to a place, none stands behind a higher one
abbrev pub AscendWhereFound : List (Option ℕ) → ℕ → Type 0
AscendWhereFound found n =
    (p q a b : ℕ) → p < q → q < n → slice_index_or found p None ≡ Some a → slice_index_or found q None ≡ Some b → a ≤ b

-- some item stands behind a higher one
pub record DescendSomewhere (found : List (Option ℕ)) : Type 0 where
  pub place : ℕ
  pub later : ℕ
  pub before : place < later
  pub within : later < length found
  pub one : ℕ
  pub other : ℕ
  pub one_is : slice_index_or found place None ≡ Some one
  pub other_is : slice_index_or found later None ≡ Some other
  pub higher : other < one

-- at some place nothing was found
pub record LacksSome (found : List (Option ℕ)) : Type 0 where
  pub place : ℕ
  pub within : place < length found
  pub none : slice_index_or found place None ≡ None

-- the waves of items before and after some more are given the next wave
pub record Seating : Type 0 where
  pub items : List ℕ
  pub wave : ℕ
  pub before : List (Option ℕ)
  pub after : List (Option ℕ)

-- none of the items had a wave or stands twice among them, each has this one, and the others have what they had
pub record AreSeated (s : Seating) : Type 0 where
  pub count : length s.after ≡ length s.before
  pub free : (p : ℕ) → p < length s.items → slice_index_or s.before (slice_index s.items p) None ≡ None
  pub once : (p : ℕ) → p < length s.items → Contains (take p s.items) (slice_index s.items p) → ⊥
  pub seated : (i : ℕ) → Contains s.items i → slice_index_or s.after i None ≡ Some s.wave
  pub kept : (i : ℕ) → (Contains s.items i → ⊥) → slice_index_or s.after i None ≡ slice_index_or s.before i None

-- an item had a wave, or stands before among the items
pub record IsSeatTaken (items : List ℕ) (before : List (Option ℕ)) : Type 0 where
  pub place : ℕ
  pub within : place < length items
  pub taken :
      ((wave : ℕ) × (slice_index_or before (slice_index items place) None ≡ Some wave)) ⊎ Contains (take place items) (slice_index items place)

-- a second change whose first one isn't in a wave before this one
pub record IsEarlyItem (ranks : List (Option ℕ)) (wave item : ℕ) : Type 0 where
  pub router : ℕ
  pub is_second : item ≡ 2 * router + 1
  pub late : (v : ℕ) → slice_index_or ranks (2 * router) None ≡ Some v → v < wave → ⊥
