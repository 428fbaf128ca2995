-- The least of some faults, in two parts and in a loop.
use Rattle.std.proofs.lemmas.Grind.{common_steps}
use Rattle.std.proofs.Common.{sym, ◌≡◌, ℕ, ◌+◌, ◌<◌, List, [], ◌∷◌, ◌++◌, length, take, get_or, Option, ap, ◌∙◌, Bool, true, false, ◌&&◌, ◌||◌}
use Rattle.std.proofs.Common.{Some, None, refl, cond, nat_eq, nat_lt, arith}
use Rattle.std.proofs.lemmas.List.{take_more}
use Rattle.ios_lines.specs.FaultOrder.{rank, is_before, lesser_fault, least_fault}
use Rattle.ios_lines.specs.declared.fault.Fault.{Fault}
use Rattle.std.proofs.lemmas.Bool.Decides.{nat_tests}

-- a pair of numbers comes before another: the first is less, or it is the same and the second is less
abbrev comes_before : ℕ → ℕ → ℕ → ℕ → Bool
comes_before l r m s = nat_lt l m || (nat_eq l m && nat_lt r s)

before_trans : (a b c i j k : ℕ) → comes_before b j a i ≡ true → comes_before c k b j ≡ true → comes_before c k a i ≡ true
before_trans a b c i j k p q = grind (arith, nat_tests)

after_trans : (a b c i j k : ℕ) → comes_before b j a i ≡ false → comes_before c k b j ≡ false → comes_before c k a i ≡ false
after_trans a b c i j k p q = grind (arith, nat_tests)

left_shape : (t : Bool) (f g h : Fault) → lesser_fault (cond t (Some g) (Some f)) (Some h)
    ≡ cond t (cond (is_before h g) (Some h) (Some g)) (cond (is_before h f) (Some h) (Some f))
left_shape t f g h = grind (arith, common_steps)

right_shape : (u : Bool) (f g h : Fault) → lesser_fault (Some f) (cond u (Some h) (Some g))
    ≡ cond u (cond (is_before h f) (Some h) (Some f)) (cond (is_before g f) (Some g) (Some f))
right_shape u f g h = grind (arith, common_steps)

same_shape : (t u v : Bool) (f g h : Option Fault) → (t ≡ true → u ≡ true → v ≡ true) → (t ≡ false → u ≡ false → v ≡ false) →
    cond t (cond u h g) (cond v h f) ≡ cond u (cond v h f) (cond t g f)
same_shape t u v f g h p q = grind arith

none_after : (t : Bool) (f g : Fault) → lesser_fault (cond t (Some g) (Some f)) None ≡ cond t (Some g) (Some f)
none_after t f g = grind (arith, common_steps)

lesser-assoc : (a b c : Option Fault) → lesser_fault (lesser_fault a b) c ≡ lesser_fault a (lesser_fault b c)
lesser-assoc None b c = refl
lesser-assoc (Some f) None c = refl
lesser-assoc (Some f) (Some g) None = none_after (is_before g f) f g
lesser-assoc (Some f) (Some g) (Some h) =
    left_shape (is_before g f) f g h
    ∙ same_shape (is_before g f) (is_before h g) (is_before h f) (Some f) (Some g) (Some h)
    (before_trans f.line g.line h.line (rank f.kind) (rank g.kind) (rank h.kind))
    (after_trans f.line g.line h.line (rank f.kind) (rank g.kind) (rank h.kind))
    ∙ sym (right_shape (is_before h g) f g h)

pub lesser-none : (a : Option Fault) → lesser_fault a None ≡ a
lesser-none a = grind (arith, common_steps)

pub least_fault-append : (fs gs : List Fault) → least_fault (fs ++ gs) ≡ lesser_fault (least_fault fs) (least_fault gs)
least_fault-append [] gs = refl
least_fault-append (f ∷ fs) gs = ap (lesser_fault (Some f)) (least_fault-append fs gs) ∙ sym (lesser-assoc (Some f) (least_fault fs) (least_fault gs))

-- the least of some faults in a loop over them, with one more
pub least_next : (fs : List Fault) (i : ℕ) (d : Fault) → i < length fs →
    least_fault (take (i + 1) fs) ≡ lesser_fault (least_fault (take i fs)) (Some (get_or fs i d))
least_next fs i d within = grind (arith, common_steps, least_fault-append, take_more)
