-- Lists of distinct numbers, orders of the numbers below n, and what stands before what.
use Rattle.std.specs.Prelude.{◌≡◌, ◌≢◌, ℕ, ◌<◌, ◌↔◌, List, length, slice_index, AllPairs, Contains}

-- no number stands twice in the list
abbrev pub AreDistinct : List ℕ → Type 0
AreDistinct numbers = AllPairs (λ u v. u ≢ v) numbers

-- an order lists every router below n once
pub record IsOrder (n : ℕ) (order : List ℕ) : Type 0 where
  pub once : AllPairs (λ u v. u ≢ v) order
  pub all : (u : ℕ) → Contains order u ↔ u < n

-- u stands before v in an order: at an earlier place
pub record IsBefore (order : List ℕ) (u v : ℕ) : Type 0 where
  pub place : ℕ
  pub later : ℕ
  pub earlier : place < later
  pub within : later < length order
  pub first : slice_index order place ≡ u
  pub second : slice_index order later ≡ v
