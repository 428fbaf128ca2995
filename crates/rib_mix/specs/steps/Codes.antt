-- What a router uses for an address, as a number.
use Rattle.std.specs.Prelude.{◌≡◌, ℕ, ◌+◌, ◌-◌, ◌*◌, ◌/◌, ◌%◌, ◌==◌, Bool, true, false, if◌then◌else◌}
use Rattle.std.proofs.Common.{arith, eqb-true, refl, sym}
use Rattle.std.proofs.lemmas.Bool.{eqb-false}
use Rattle.rib_mix.specs.declared.used.Used.{Used}
use Rattle.rib_mix.specs.declared.used.Used.TheVariants.{Connected, New, Nothing, Old}

-- entries of the new table are the odd numbers; of the even ones nothing is 0, a connected prefix 2, and from 4 on are entries of the old table
abbrev pub code_of_use : Used → ℕ
code_of_use Nothing = 0
code_of_use Connected = 2
code_of_use (Old n) = 2 * n + 4
code_of_use (New n) = 2 * n + 1

-- what a number stands for
abbrev pub use_of_code : ℕ → Used
use_of_code code = if code % 2 == 1 then New (code / 2) else if code == 0 then Nothing else if code == 2 then Connected else Old (code / 2 - 2)

-- a number is that of what it stands for
pub use_code_back : (code : ℕ) → code_of_use (use_of_code code) ≡ code
use_code_back code = by_tests (code % 2 == 1) (code == 0) (code == 2) refl refl refl
  where
    by_tests : (odd none two : Bool) → (code % 2 == 1) ≡ odd → (code == 0) ≡ none → (code == 2) ≡ two
        → code_of_use (if odd then New (code / 2) else if none then Nothing else if two then Connected else Old (code / 2 - 2)) ≡ code
    by_tests true none two is_odd is_none is_two = omega (arith, eqb-true (code % 2) 1 is_odd)
    by_tests false true two is_odd is_none is_two = sym (eqb-true code 0 is_none)
    by_tests false false true is_odd is_none is_two = sym (eqb-true code 2 is_two)
    by_tests false false false is_odd is_none is_two =
        omega (arith, eqb-false (code % 2) 1 is_odd, eqb-false code 0 is_none, eqb-false code 2 is_two)
