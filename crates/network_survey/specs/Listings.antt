-- Lists of all that meet a definition.
use Rattle.std.specs.Prelude.{◌≡◌, ◌≢◌, ◌↔◌, ℕ, List, length, AllPairs, Contains}

-- the list of exactly those of which P holds, each once: in it one comes before another as the order says
pub record ListsAll {A : Type 0} (Before : A → A → Type 0) (P : A → Type 0) (items : List A) : Type 0 where
  pub exact : (x : A) → Contains items x ↔ P x
  pub ascending : AllPairs Before items

-- P holds of so many: a list of that length has each of them once, and no others
pub record CountsAll {A : Type 0} (P : A → Type 0) (count : ℕ) : Type 0 where
  pub items : List A
  pub once : AllPairs (λ (x y : A). x ≢ y) items
  pub exact : (x : A) → Contains items x ↔ P x
  pub count_is : length items ≡ count
