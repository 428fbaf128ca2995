-- The code of a distance: one above it, and 0 where there is none.
use Rattle.std.specs.Prelude.{◌≡◌, ℕ, zero, suc, Option, Some, None, refl}

-- the distance of a code
abbrev pub distance_of_code : ℕ → Option ℕ
distance_of_code zero = None
distance_of_code (suc d) = Some d

-- the code of a distance
abbrev pub code_of_distance : Option ℕ → ℕ
code_of_distance None = zero
code_of_distance (Some d) = suc d

-- a code is that of its distance
pub code_back : (n : ℕ) → code_of_distance (distance_of_code n) ≡ n
code_back zero = refl
code_back (suc d) = refl
