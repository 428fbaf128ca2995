-- The first place that passes a test, as a place or as none.
use Rattle.std.proofs.lemmas.Grind.{common_steps}
use Rattle.std.proofs.Common.{◌≡◌, ℕ, ◌≤◌, Bool, false, not, List, length, Some, None, nat_lt, cond, arith}
use Rattle.std.specs.Prelude.{position}
use Rattle.std.specs.List.{position_or_len}
use Rattle.std.proofs.lemmas.Bool.Decides.{nat_tests}
use Rattle.std.proofs.lemmas.List.Sums.{prefix_len-le-length}

chosen : (t : Bool) (place n : ℕ) → cond t (Some place) None ≡ Some n → n ≡ place
chosen t place n e = grind (arith, common_steps)

refused : (t : Bool) (place : ℕ) → cond t (Some place) None ≡ None → t ≡ false
refused t place e = grind (arith, common_steps)

pub some_place : {X : Type 0} (p : X → Bool) (xs : List X) (n : ℕ) → position p xs ≡ Some n → n ≡ position_or_len p xs
some_place p xs n e = chosen _ (position_or_len p xs) n e

pub no_place : {X : Type 0} (p : X → Bool) (xs : List X) → position p xs ≡ None → length xs ≡ position_or_len p xs
no_place p xs e =
    let beyond : nat_lt (position_or_len p xs) (length xs) ≡ false = refused _ (position_or_len p xs) e in
    let within : position_or_len p xs ≤ length xs = prefix_len-le-length (λ x. not (p x)) xs in
    grind (arith, nat_tests)
