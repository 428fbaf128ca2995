-- What holds of each place of a list.
use Rattle.std.specs.Prelude.{◌≡◌, ◌<◌, ℕ, List, length, slice_index_or}

-- the list has n places, and R holds of each and what stands there
pub record AreEach {X : Type 0} (R : ℕ → X → Type 0) (none : X) (n : ℕ) (all : List X) : Type 0 where
  pub count : length all ≡ n
  pub each : (k : ℕ) → k < n → R k (slice_index_or all k none)
