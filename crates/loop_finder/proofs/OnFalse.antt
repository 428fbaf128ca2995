-- What follows where a test fails.
use Rattle.std.proofs.Common.{arith}
use Rattle.std.proofs.lemmas.Grind.{common_steps}
use Rattle.std.proofs.Common.{◌≡◌, ◌↔◌, Bool, true, false, not, Option, IfNone, is_some}
use Rattle.std.proofs.lemmas.Bool.{false≢true}
use Rattle.std.specs.Bool.{IsTrue, OnFalse, OnTrue}

pub on_false : {P Q : Type 0} (b : Bool) → OnFalse b P → (P → Q) → OnFalse b Q
on_false b p over = grind (arith, common_steps)

pub on_true : {P Q : Type 0} (b : Bool) → OnTrue b P → (P → Q) → OnTrue b Q
on_true b p over = grind (arith, common_steps)

-- where a test tells that nothing was found, there holds what holds then
pub on_none : {X : Type 0} (P : Type 0) (found : Option X) (b : Bool) → is_some found ≡ not b → IfNone found P → OnTrue b P
on_none P found b is p = grind (arith, common_steps, false≢true)

pub on_not : (P : Type 0) (b : Bool) → OnFalse b P → OnTrue (not b) P
on_not P b p = grind (arith, common_steps)

pub on_true_two : {P Q R : Type 0} (b : Bool) → OnTrue b P → OnTrue b Q → (P → Q → R) → OnTrue b R
on_true_two b p q over = grind (arith, common_steps)

pub on_true_three : {P Q R S : Type 0} (b : Bool) → OnTrue b P → OnTrue b Q → OnTrue b R → (P → Q → R → S) → OnTrue b S
on_true_three b p q r over = grind (arith, common_steps)

pub never_at_false : {P : Type 0} (b : Bool) → b ≡ false → IsTrue b ↔ P → ¬ P
never_at_false b is both here = let told : b ≡ true = both.1 here in cc
