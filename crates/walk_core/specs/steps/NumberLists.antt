-- Lists of numbers: those of one number by it, and long ones one after another in one list of numbers.
use Rattle.std.specs.Prelude.{◌≡◌, ℕ, ◌-◌, ◌<◌, ◌≤◌, List, [], ◌∷◌, length, take, drop, map, All, slice_index_or}
use Rattle.walk_core.specs.declared.long_lists.Span.{Span}

-- the numbers of a span
abbrev pub part_of : List ℕ → Span → List ℕ
part_of numbers span = take (span.end - span.start) (drop span.start numbers)

-- the lists of all spans
abbrev pub lists_of : List ℕ → List Span → List (List ℕ)
lists_of numbers spans = map (part_of numbers) spans

-- a span is one of the numbers
pub record IsWithin (numbers : List ℕ) (span : Span) : Type 0 where
  pub ordered : span.start ≤ span.end
  pub within : span.end ≤ length numbers

-- all spans are
abbrev pub AreSpansWithin : List ℕ → List Span → Type 0
AreSpansWithin numbers spans = All (IsWithin numbers) spans

-- the numbers of a list: none, one alone, and more of them at a place among the long lists
pub data Numbers : Type 0 where
  Nothing : Numbers
  One : ℕ → Numbers
  More : ℕ → Numbers

-- the list of some numbers, by the long lists
abbrev pub list_of : List (List ℕ) → Numbers → List ℕ
list_of long Nothing = []
list_of long (One number) = number ∷ []
list_of long (More place) = slice_index_or long place []

-- where it is a long list, it is there
abbrev pub IsLongListKept : List (List ℕ) → Numbers → Type 0
IsLongListKept long numbers = (place : ℕ) → numbers ≡ More place → place < length long

-- long lists come behind others
pub record Grows (old new : List (List ℕ)) : Type 0 where
  pub within : length old ≤ length new
  pub same : (place : ℕ) → place < length old → slice_index_or new place [] ≡ slice_index_or old place []

-- the numbers that stand at these places; those of a long list stay
abbrev pub renumbered : List ℕ → Numbers → Numbers
renumbered vertices Nothing = Nothing
renumbered vertices (One place) = One (slice_index_or vertices place 0)
renumbered vertices (More place) = More place
