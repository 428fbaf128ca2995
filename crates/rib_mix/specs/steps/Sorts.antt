-- Sorts of prefixes: those that are alike, and their parents too.
use Rattle.std.specs.Prelude.{◌≡◌, ℕ, ◌<◌, List, length, slice_index_or, Option, Some, None, IfSome}
use Rattle.rib_mix.specs.steps.Features.{HaveSameFeatures}
use Rattle.rib_mix.specs.declared.features.Features.{Features}
use Rattle.rib_mix.specs.declared.sorts.Sorts.{Sorts}

-- the sort of the prefix at a place, if there is one
abbrev pub sort_at : List ℕ → Option ℕ → Option ℕ
sort_at of_places None = None
sort_at of_places (Some place) = Some (slice_index_or of_places place 0)

-- each prefix has its parent before it
abbrev pub AreEarlierPlaces : List (Option ℕ) → Type 0
AreEarlierPlaces parents = (i : ℕ) → i < length parents → IfSome (slice_index_or parents i None) (λ j. j < i)

-- each sort has its first prefix among so many, and its parents' sort before it
pub record IsSorting (places : ℕ) (sorts : Sorts) : Type 0 where
  pub count : length sorts.parents.items ≡ length sorts.firsts.items
  pub firsts : (sort : ℕ) → sort < length sorts.firsts.items → slice_index_or sorts.firsts.items sort 0 < places
  pub parents : (sort : ℕ) → sort < length sorts.firsts.items → IfSome (slice_index_or sorts.parents.items sort None)
      (λ up. up < sort)
  pub within : (i : ℕ) → i < length sorts.of_places.items → slice_index_or sorts.of_places.items i 0 < length sorts.firsts.items

-- the prefix at place i is of this sort: it is like the sort's first prefix, and the parents of both are of one sort
pub record IsOfSort (like : ℕ → ℕ → Type 0) (parents : List (Option ℕ)) (sorts : Sorts) (i sort : ℕ) : Type 0 where
  pub within : sort < length sorts.firsts.items
  pub like_first : like i (slice_index_or sorts.firsts.items sort 0)
  pub parent : slice_index_or sorts.parents.items sort None ≡ sort_at sorts.of_places.items (slice_index_or parents i None)

-- the sorts of the first n prefixes
pub record AreSorts (like : ℕ → ℕ → Type 0) (parents : List (Option ℕ)) (n : ℕ) (sorts : Sorts) : Type 0 where
  pub count : length sorts.of_places.items ≡ n
  pub sorting : IsSorting (length parents) sorts
  pub each : (i : ℕ) → i < n → IsOfSort like parents sorts i (slice_index_or sorts.of_places.items i 0)

-- the next prefix has the features of a sort, and its parent is of the sort of the sort's parents
pub record IsLikeSort (features : Features) (sorts : Sorts) (parent : Option ℕ) (sort : ℕ) : Type 0 where
  pub within : sort < length sorts.firsts.items
  pub like_first : HaveSameFeatures features (length sorts.of_places.items) (slice_index_or sorts.firsts.items sort 0)
  pub parent_is : slice_index_or sorts.parents.items sort None ≡ parent
