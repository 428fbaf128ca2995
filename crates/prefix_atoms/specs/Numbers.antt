-- The intervals that tell an address's class.
use Rattle.std.specs.Prelude.{◌≡◌, ℕ, ◌+◌, ◌^◌, ◌<◌, ◌≤◌, List, length, slice_index}
use Rattle.std.specs.List.Sorted.{IsStrictlyIncreasing}
use Rattle.prefix_atoms.specs.Classes.{Classes, IsInClass}

-- the address lies in the interval at place i: from its start on, and before the next start
pub record InInterval (starts : List ℕ) (i a : ℕ) : Type 0 where
  pub within : i < length starts
  pub from : slice_index starts i ≤ a
  pub before : i + 1 < length starts → a < slice_index starts (i + 1)

-- intervals that tell the class of each address
pub record TellClasses (c : Classes) (starts numbers : List ℕ) : Type 0 where
  pub ascending : IsStrictlyIncreasing starts
  pub some : 0 < length starts
  pub first : slice_index starts 0 ≡ 0
  pub count : length numbers ≡ length starts
  pub tell : (i a : ℕ) → InInterval starts i a → a < 2 ^ 32 → IsInClass c (slice_index numbers i) a
