-- The code of the numbers of a list: one number alone is its own code, and long lists have those behind.
use Rattle.std.specs.Prelude.{◌≡◌, ℕ, ◌+◌, ◌-◌, ◌==◌, Bool, true, false, nat_lt, if◌then◌else◌}
use Rattle.std.proofs.Common.{arith, eqb-true, refl, sym}
use Rattle.std.proofs.lemmas.Bool.{ltb-false}
use Rattle.walk_core.specs.steps.NumberLists.{Numbers}
use Rattle.walk_core.specs.steps.NumberLists.Numbers.{Nothing, One, More}

-- one number is its own code, long lists come from 2^31 on, and 2^32 - 1 is the code of none
abbrev pub code_of_numbers : Numbers → ℕ
code_of_numbers Nothing = 4294967295
code_of_numbers (One number) = number
code_of_numbers (More place) = 2147483648 + place

-- what a code stands for
abbrev pub numbers_of_code : ℕ → Numbers
numbers_of_code code = if nat_lt code 2147483648 then One code else if code == 4294967295 then Nothing else More (code - 2147483648)

-- a code is that of what it stands for
pub numbers_code_back : (code : ℕ) → code_of_numbers (numbers_of_code code) ≡ code
numbers_code_back code = by_tests (nat_lt code 2147483648) (code == 4294967295) refl refl
  where
    by_tests : (low none : Bool) → nat_lt code 2147483648 ≡ low → (code == 4294967295) ≡ none
        → code_of_numbers (if low then One code else if none then Nothing else More (code - 2147483648)) ≡ code
    by_tests true none is_low is_none = refl
    by_tests false true is_low is_none = sym (eqb-true code 4294967295 is_none)
    by_tests false false is_low is_none = omega (arith, ltb-false code 2147483648 is_low)
