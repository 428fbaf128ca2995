-- Numbers of entries, of which there may be none, in one number.
use Rattle.std.specs.Prelude.{ℕ, zero, suc, Option, None, Some}

-- none is 0, and a number is one more
abbrev pub code_of_number : Option ℕ → ℕ
code_of_number None = 0
code_of_number (Some n) = suc n

-- the number that is one less, if any
abbrev pub number_of_code : ℕ → Option ℕ
number_of_code zero = None
number_of_code (suc n) = Some n
