-- The ring that is found: it returns, and there is one.
use Rattle.std.proofs.lemmas.Grind.{common_steps}
use Rattle.std.proofs.Common.{◌≡◌, ℕ, ◌≤◌, List, [], ◌∷◌, ◌++◌, refl, sym, ap, ◌∙◌, subst, arith}
use Rattle.igp_theory.specs.Loops.{EachToNext, IsLowestLive, IsLowestLiveHop, IsFoundRing}
use Rattle.igp_theory.specs.States.{Follows}
use Rattle.order_core.specs.Orders.{AreDistinct}
use Rattle.order_core.specs.Rings.{IsTurned}
use Rattle.order_core.proofs.DistinctLists.{back_distinct, twice_not_distinct, same_split}
use Rattle.order_core.proofs.Turning.{same_turned}

-- Rings return

-- a non-empty list of steps from u to v
pub record Arrives (step : ℕ → ℕ → Type 0) (u v : ℕ) : Type 0 where
  pub hop : ℕ
  pub hops : List ℕ
  pub follows : Follows step u (hop ∷ hops) v

arrives : (step : ℕ → ℕ → Type 0) (n last u : ℕ) (rest : List ℕ) →
    EachToNext (IsLowestLiveHop step n) last (u ∷ rest) → Arrives step u last
arrives step n last u [] goes = record { hop = last; hops = []; follows = (goes.steps, refl) }
arrives step n last u (h ∷ rest) goes =
    let more = arrives step n last h rest goes.1 in
    record { hop = h; hops = more.hop ∷ more.hops; follows = (goes.0.steps, more.follows) }

-- what holds of each number of a list and the next holds in its back
goes_in_back : (R : ℕ → ℕ → Type 0) (last : ℕ) (front : List ℕ) (u : ℕ) (rest : List ℕ) →
    EachToNext R last (front ++ u ∷ rest) → EachToNext R last (u ∷ rest)
goes_in_back R last [] u rest goes = goes
goes_in_back R last (x ∷ []) u rest goes = goes.1
goes_in_back R last (x ∷ y ∷ front) u rest goes = goes_in_back R last (y ∷ front) u rest goes.1

-- some list of steps returns to the router that repeats
pub found_ring_returns : {step : ℕ → ℕ → Type 0} {n : ℕ} {ring : List ℕ} (found : IsFoundRing step n ring) →
    Arrives step found.again found.again
found_ring_returns {step} {n} {ring} found =
    let goes = subst (λ (l : List ℕ). EachToNext (IsLowestLiveHop step n) found.again l) found.in_order found.goes in
    arrives step n found.again found.again found.rest
    (goes_in_back (IsLowestLiveHop step n) found.again found.lead found.again found.rest goes)

-- One walk

same_start : {step : ℕ → ℕ → Type 0} {n u v : ℕ} → IsLowestLive step n u → IsLowestLive step n v → u ≡ v
same_start {step} {n} {u} {v} one other =
    let up : u ≤ v = one.lowest v other.live in
    let down : v ≤ u = other.lowest u one.live in
    omega arith

same_hop : {step : ℕ → ℕ → Type 0} {n u h k : ℕ} → IsLowestLiveHop step n u h → IsLowestLiveHop step n u k → h ≡ k
same_hop {step} {n} {u} {h} {k} one other = grind (arith, common_steps)

-- of two walks to the lowest-numbered live hops, one that would go on to a and one that would go on
-- to b, both are the same, or one goes on where the other ends
pub data AreOneWalk (xs : List ℕ) (a : ℕ) (ys : List ℕ) (b : ℕ) : Type 0 where
  same : xs ≡ ys → a ≡ b → AreOneWalk xs a ys b
  shorter : (more : List ℕ) → ys ≡ xs ++ a ∷ more → AreOneWalk xs a ys b
  longer : (more : List ℕ) → xs ≡ ys ++ b ∷ more → AreOneWalk xs a ys b

are_one_walk_cons : {xs ys : List ℕ} {a b x y : ℕ} → x ≡ y → AreOneWalk xs a ys b → AreOneWalk (x ∷ xs) a (y ∷ ys) b
are_one_walk_cons {xs} {ys} {a} {b} {x} {y} first (same visited again) = same (cc) again
are_one_walk_cons {xs} {ys} {a} {b} {x} {y} first (shorter more is) = shorter more (cc)
are_one_walk_cons {xs} {ys} {a} {b} {x} {y} first (longer more is) = longer more (cc)

are_one_walk : (step : ℕ → ℕ → Type 0) (n u : ℕ) (xs : List ℕ) (a : ℕ) (ys : List ℕ) (b : ℕ) →
    EachToNext (IsLowestLiveHop step n) a (u ∷ xs) → EachToNext (IsLowestLiveHop step n) b (u ∷ ys) → AreOneWalk xs a ys b
are_one_walk step n u [] a [] b goes other = same refl (same_hop goes other)
are_one_walk step n u [] a (y ∷ ys) b goes other = shorter ys (ap (λ (v : ℕ). v ∷ ys) (same_hop other.0 goes))
are_one_walk step n u (x ∷ xs) a [] b goes other = longer xs (ap (λ (v : ℕ). v ∷ xs) (same_hop goes.0 other))
are_one_walk step n u (x ∷ xs) a (y ∷ ys) b goes other =
    let first : x ≡ y = same_hop goes.0 other.0 in
    are_one_walk_cons first (are_one_walk step n x xs a ys b goes.1
    (subst (λ (v : ℕ). EachToNext (IsLowestLiveHop step n) b (v ∷ ys)) (sym first) other.1))

-- a walk that goes on from a router that repeats isn't one of distinct routers
goes_on_not_distinct : (u : ℕ) (xs lead : List ℕ) (a : ℕ) (rest ys more : List ℕ) → u ∷ xs ≡ lead ++ a ∷ rest →
    ys ≡ xs ++ a ∷ more → AreDistinct (u ∷ ys) → ⊥
goes_on_not_distinct u xs lead a rest ys more in_order is distinct =
    let whole : u ∷ ys ≡ (lead ++ a ∷ rest) ++ a ∷ more =
    ap (λ (l : List ℕ). u ∷ l) is ∙ ap (λ (l : List ℕ). l ++ a ∷ more) in_order in
    twice_not_distinct lead a rest more (subst AreDistinct whole distinct)

-- One ring

-- the walks of two found rings visit the same routers and repeat the same
record AreSameWalk {step : ℕ → ℕ → Type 0} {n : ℕ} {ring turn : List ℕ} (one : IsFoundRing step n ring)
    (other : IsFoundRing step n turn) : Type 0 where
  visited : one.start ∷ one.visited ≡ other.start ∷ other.visited
  again : one.again ≡ other.again

same_walk : {step : ℕ → ℕ → Type 0} {n : ℕ} {ring turn : List ℕ} (one : IsFoundRing step n ring) (other : IsFoundRing step n turn) →
    AreSameWalk one other
same_walk {step} {n} one other =
    let start : one.start ≡ other.start = same_start one.begins other.begins in
    let goes = subst (λ (v : ℕ). EachToNext (IsLowestLiveHop step n) other.again (v ∷ other.visited)) (sym start) other.goes in
    let distinct = subst (λ (v : ℕ). AreDistinct (v ∷ other.visited)) (sym start) other.distinct in
    let in_order = subst (λ (v : ℕ). v ∷ other.visited ≡ other.lead ++ other.again ∷ other.rest) (sym start) other.in_order in
    elim (are_one_walk step n one.start one.visited one.again other.visited other.again one.goes goes) [
      | same visited again ↦ record {
        visited = ap (λ (v : ℕ). v ∷ one.visited) start ∙ ap (λ (l : List ℕ). other.start ∷ l) visited;
        again =
            again;
      }
      | shorter more is ↦ absurd (goes_on_not_distinct one.start one.visited one.lead one.again one.rest other.visited more one.in_order is distinct)
      | longer more is ↦ absurd (goes_on_not_distinct one.start other.visited other.lead other.again other.rest one.visited more in_order is one.distinct)
    ]

same_part : {step : ℕ → ℕ → Type 0} {n : ℕ} {ring turn : List ℕ} (one : IsFoundRing step n ring) (other : IsFoundRing step n turn) →
    one.again ∷ one.rest ≡ other.again ∷ other.rest
same_part one other =
    let walk = same_walk one other in
    let splits : one.lead ++ one.again ∷ one.rest ≡ other.lead ++ one.again ∷ other.rest =
    sym one.in_order ∙ walk.visited ∙ other.in_order ∙ ap (λ (v : ℕ). other.lead ++ v ∷ other.rest) (sym walk.again) in
    let place = same_split one.lead one.again one.rest other.lead other.rest (subst AreDistinct one.in_order one.distinct) splits in
    ap (λ (v : ℕ). v ∷ one.rest) walk.again ∙ ap (λ (l : List ℕ). other.again ∷ l) place.1

found_is_turned : {step : ℕ → ℕ → Type 0} {n : ℕ} {ring : List ℕ} (one : IsFoundRing step n ring) →
    IsTurned (one.again ∷ one.rest) ring
found_is_turned one = grind (arith, common_steps)

-- there is one found ring
pub found_ring_unique : {step : ℕ → ℕ → Type 0} {n : ℕ} {ring turn : List ℕ} → IsFoundRing step n ring → IsFoundRing step n turn →
    ring ≡ turn
found_ring_unique {step} {n} {ring} {turn} one other =
    same_turned (back_distinct one.lead (one.again ∷ one.rest) (subst AreDistinct one.in_order one.distinct))
    (found_is_turned one)
    (subst (λ (l : List ℕ). IsTurned l turn) (sym (same_part one other)) (found_is_turned other))
