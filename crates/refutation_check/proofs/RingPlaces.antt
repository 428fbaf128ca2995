-- Rings, place by place.
use Rattle.std.proofs.lemmas.Grind.{common_steps}
use Rattle.std.proofs.Common.{◌≡◌, ℕ, zero, suc, All, ◌+◌, ◌<◌, ◌≤◌, List, [], ◌∷◌, ◌++◌, length, get_or, Contains}
use Rattle.std.proofs.Common.{arith, refl, sym, subst}
use Rattle.std.proofs.lemmas.Bool.{cases_lt}
use Rattle.std.proofs.lemmas.List.{get_or_past}
use Rattle.igp_theory.specs.Loops.{EachToNext, AroundRing}
use Rattle.order_core.specs.Orders.{AreDistinct}
use Rattle.order_core.specs.Pairs.{Pair, IsPath}
use Rattle.order_search.specs.Trees.{Place, IsCycle}
use Rattle.refutation_check.specs.WrongLines.{IsAssumedRound}
use Rattle.refutation_check.specs.steps.Rings.{next_at}

each_from : {A : Type 0} (R : A → A → Type 0) (first : A) (ring : List A) →
    ((k : ℕ) (d : A) → k < length ring → R (get_or ring k d) (get_or ring (k + 1) first)) → EachToNext R first ring
each_from R first [] goes = tt
each_from R first (r ∷ []) goes = goes 0 r (omega arith)
each_from R first (r ∷ s ∷ rest) goes = (
  goes 0 r (omega arith),
  each_from R first (s ∷ rest) (λ k d within.
      let e : suc k + 1 ≡ suc (k + 1) = omega arith in
      subst (λ (n : ℕ). R (get_or (s ∷ rest) k d) (get_or (r ∷ s ∷ rest) n first)) e (goes (suc k) d (omega (arith, within)))),
)

each_at : {A : Type 0} (R : A → A → Type 0) (first : A) (ring : List A) (k : ℕ) (d : A) → EachToNext R first ring → k < length ring →
    R (get_or ring k d) (get_or ring (k + 1) first)
each_at R first [] k d goes within = absurd (omega (arith, within))
each_at R first (r ∷ []) zero d goes within = goes
each_at R first (r ∷ []) (suc k) d goes within = absurd (omega (arith, within))
each_at R first (r ∷ s ∷ rest) zero d goes within = goes.0
each_at R first (r ∷ s ∷ rest) (suc k) d goes within =
    let e : suc (k + 1) ≡ suc k + 1 = omega arith in
    subst (λ (n : ℕ). R (get_or (s ∷ rest) k d) (get_or (r ∷ s ∷ rest) n first)) e (each_at R first (s ∷ rest) k d goes.1 (omega (arith, within)))

-- what holds at each place holds round the ring
pub around_from : {A : Type 0} (R : A → A → Type 0) (ring : List A) →
    ((k : ℕ) (d : A) → k < length ring → R (get_or ring k d) (next_at ring k d)) →
    AroundRing R ring
around_from R [] goes = tt
around_from R (r ∷ rest) goes = each_from R r (r ∷ rest) goes

-- what holds round the ring holds at each place
pub around_at : {A : Type 0} (R : A → A → Type 0) (ring : List A) (k : ℕ) (d : A) → AroundRing R ring → k < length ring →
    R (get_or ring k d) (next_at ring k d)
around_at R ring k d goes within = grind (arith, common_steps, each_at)

path_from : (pairs : List Pair) (first u : ℕ) (rest : List ℕ) → EachToNext (λ (a b : ℕ). Contains pairs (a, b)) first (u ∷ rest) →
    IsPath pairs u (rest ++ first ∷ []) first
path_from pairs first u [] goes = (goes, refl)
path_from pairs first u (w ∷ rest) goes = (goes.0, path_from pairs first w rest goes.1)

-- distinct routers, each of which is assumed before the next round the ring, are a cycle
pub cycle_from : (place : Place) (cycle : List ℕ) → 2 ≤ length cycle → AreDistinct cycle → IsAssumedRound place cycle → IsCycle place cycle
cycle_from place [] some distinct round = absurd (omega (arith, some))
cycle_from place (u ∷ rest) some distinct round = record {
  first = u;
  others = rest;
  begins = refl;
  some = omega (arith, some);
  distinct = distinct;
  round = path_from place u u rest round;
}

goes_from : (pairs : List Pair) (first u : ℕ) (rest : List ℕ) → IsPath pairs u (rest ++ first ∷ []) first →
    EachToNext (λ (a b : ℕ). Contains pairs (a, b)) first (u ∷ rest)
goes_from pairs first u [] path = path.0
goes_from pairs first u (w ∷ rest) path = (path.0, goes_from pairs first w rest path.1)

-- and round a cycle each router is assumed before the next
pub round_from : (place : Place) (cycle : List ℕ) → IsCycle place cycle → IsAssumedRound place cycle
round_from place cycle is =
    subst (λ (routers : List ℕ). IsAssumedRound place routers) (sym is.begins) (goes_from place is.first is.first is.others is.round)

-- what holds of each item holds of the one after a place
pub next_holds : {A : Type 0} (P : A → Type 0) (ring : List A) (k : ℕ) (d : A) → All P ring → k < length ring → P (next_at ring k d)
next_holds P ring k d all within = grind (arith, common_steps, cases_lt, get_or_past)

-- one place more
pub places_more : {A : Type 0} (R : A → A → Type 0) (ring : List A) (i : ℕ) →
    ((k : ℕ) (d : A) → k < i → R (get_or ring k d) (next_at ring k d)) →
    ((d : A) → R (get_or ring i d) (next_at ring i d))
    → (k : ℕ) (d : A) → k < i + 1 → R (get_or ring k d) (next_at ring k d)
places_more R ring i below here k d within = grind (arith, common_steps, cases_lt)
