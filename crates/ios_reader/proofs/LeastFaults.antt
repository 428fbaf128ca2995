-- The least of some faults is on the least faulty line, with the least kind on it.
use Rattle.std.proofs.lemmas.Grind.{common_steps}
use Rattle.std.proofs.Common.{◌≡◌, ℕ, ◌<◌, ◌≤◌, Bool, true, false, ◌&&◌, ◌||◌, List, [], ◌∷◌, Option, Some, None, refl, cond, nat_eq, nat_lt, arith, ◌⊎◌}
use Rattle.ios_lines.specs.FaultOrder.{rank, is_before, lesser_fault, least_fault}
use Rattle.ios_reader.specs.Configurations.{IsNotAfter}
use Rattle.ios_lines.specs.declared.fault.Fault.{Fault}

-- two pairs of numbers by the tests of their order
passed : (l m r s : ℕ) (t u v : Bool) → nat_lt l m ≡ t → nat_eq l m ≡ u → nat_lt r s ≡ v → (t || (u && v)) ≡ true → (l < m) ⊎ ((l ≡ m) × (r ≤ s))
passed l m r s t u v p q w h = grind arith

failed : (l m r s : ℕ) (t u v : Bool) → nat_lt m l ≡ t → nat_eq m l ≡ u → nat_lt s r ≡ v → (t || (u && v)) ≡ false → (l < m) ⊎ ((l ≡ m) × (r ≤ s))
failed l m r s t u v p q w h = grind arith

-- a fault that comes before another doesn't come after it
pub by_before : (f g : Fault) → is_before f g ≡ true → IsNotAfter f g
by_before f g h = passed f.line g.line (rank f.kind) (rank g.kind) _ _ _ refl refl refl h

-- a fault before which another doesn't come doesn't come after that one
pub by_not_before : (f g : Fault) → is_before g f ≡ false → IsNotAfter f g
by_not_before f g h = failed f.line g.line (rank f.kind) (rank g.kind) _ _ _ refl refl refl h

always_some : (t : Bool) (f g : Fault) → cond t (Some g) (Some f) ≡ None → ⊥
always_some t f g e = grind (arith, common_steps)

one_there : (f : Fault) (o : Option Fault) → lesser_fault (Some f) o ≡ None → ⊥
one_there f o e = grind (arith, common_steps, always_some)

-- where there is no least fault there is none
pub none_least : (fs : List Fault) → least_fault fs ≡ None → fs ≡ []
none_least [] e = refl
none_least (f ∷ fs) e = absurd (one_there f (least_fault fs) e)
