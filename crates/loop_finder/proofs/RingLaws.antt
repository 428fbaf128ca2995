-- Rings: each router and the next one.
use Rattle.std.proofs.Common.{ℕ, zero, suc, ◌<◌, List, [], ◌∷◌, ◌++◌, length, get_or, arith}
use Rattle.std.specs.List.{All}
use Rattle.std.proofs.lemmas.List.Elements.{All-nil, All-cons}
use Rattle.igp_theory.specs.Loops.{EachToNext}

-- one more at the end
pub each_to_next_push : {A : Type 0} (R : A → A → Type 0) (f y : A) (xs : List A) → EachToNext R y xs → R y f → EachToNext R f (xs ++ y ∷ [])
each_to_next_push R f y [] goes last = last
each_to_next_push R f y (x ∷ []) goes last = (goes, last)
each_to_next_push R f y (x ∷ z ∷ rest) goes last = (goes.0, each_to_next_push R f y (z ∷ rest) goes.1 last)

-- each element goes to the next one, and the last one to `f`
pub each_at : {A : Type 0} (R : A → A → Type 0) (f d : A) (xs : List A) (k : ℕ) → EachToNext R f xs → k < length xs → R (get_or xs k d) (get_or xs (suc k) f)
each_at R f d [] k goes within = absurd (omega (arith, within))
each_at R f d (x ∷ []) zero goes within = goes
each_at R f d (x ∷ []) (suc k) goes within = absurd (omega (arith, within))
each_at R f d (x ∷ y ∷ rest) zero goes within = goes.0
each_at R f d (x ∷ y ∷ rest) (suc k) goes within = each_at R f d (y ∷ rest) k goes.1 (omega (arith, within))

-- where each element goes to the one after it, and the last one to `f`
pub each_from_at : {A : Type 0} (R : A → A → Type 0) (f d : A) (xs : List A) → ((k : ℕ) → k < length xs → R (get_or xs k d) (get_or xs (suc k) f))
    → EachToNext R f xs
each_from_at R f d [] at = tt
each_from_at R f d (x ∷ []) at = at zero (omega arith)
each_from_at R f d (x ∷ y ∷ rest) at = (at zero (omega arith), each_from_at R f d (y ∷ rest) (λ k within. at (suc k) (omega (arith, within))))

-- what holds of whatever goes to something holds of each element
pub all_from_each : {A : Type 0} (R : A → A → Type 0) (P : A → Type 0) (f : A) (xs : List A) → ((u h : A) → R u h → P u) → EachToNext R f xs → All P xs
all_from_each R P f [] over goes = All-nil P
all_from_each R P f (x ∷ []) over goes = All-cons P x [] (over x f goes) (All-nil P)
all_from_each R P f (x ∷ y ∷ rest) over goes = All-cons P x (y ∷ rest) (over x y goes.0) (all_from_each R P f (y ∷ rest) over goes.1)
