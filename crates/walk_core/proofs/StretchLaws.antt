-- What is known of each vertex by the stretch of walks, and in front of it and behind it.
use Rattle.std.proofs.Common.{◌≡◌, ◌≢◌, ℕ, ◌+◌, ◌<◌, ◌≤◌, List, [], ◌∷◌, ◌++◌, Option, None, Some, inl, inr, length, length-append, replicate}
use Rattle.std.proofs.Common.{arith, get_or, subst, ◌∙◌}
use Rattle.std.proofs.lemmas.Bool.{cases_lt}
use Rattle.std.proofs.lemmas.List.{get_or-append-add, get_or-replicate, get_or_append_left, get_or_past, length-replicate}
use Rattle.walk_core.specs.Distances.{distance_at}
use Rattle.walk_core.specs.KeptWalks.{lone_row}
use Rattle.walk_core.specs.Reach.{distance_of, listed_hops_of}
use Rattle.walk_core.specs.Stretches.{ReachFrom, reach_along}

-- what stands behind so many equal ones
behind : {X : Type 0} (none : X) (n step : ℕ) (list : List X) →
    get_or (replicate n none ++ list) (n + step) none ≡ get_or list step none
behind {X} none n step list =
    subst (λ (k : ℕ). get_or (replicate n none ++ list) (k + step) none ≡ get_or list step none) (length-replicate n none)
    (get_or-append-add (replicate n none) list step none)

pub distance_along : (s : ReachFrom) (step : ℕ) → distance_of (reach_along s) (s.first + step) ≡ distance_at s.distances step
distance_along s step = behind None s.first step s.distances

pub hops_along : (s : ReachFrom) (step : ℕ) → listed_hops_of (reach_along s) (s.first + step) ≡ get_or s.hops step []
hops_along s step = behind [] s.first step s.hops

-- no walk leads to a vertex in front of it
pub front_is_far : (s : ReachFrom) (v : ℕ) → v < s.first → distance_of (reach_along s) v ≡ None
front_is_far s v before =
    get_or_append_left (replicate s.first None) s.distances None v
    (omega (arith, before, length-replicate {A = Option ℕ} s.first None)) ∙ get_or-replicate s.first v None None before

-- nor to one behind it
pub back_is_far : (s : ReachFrom) (v : ℕ) → s.first + length s.distances ≤ v → distance_of (reach_along s) v ≡ None
back_is_far s v past =
    let front : List (Option ℕ) = replicate s.first None in
    get_or_past (front ++ s.distances) v None
    (omega (arith, past, length-append front s.distances, length-replicate {A = Option ℕ} s.first None))

-- none but the root is reached where the root reaches itself alone
pub lone_is_far : (root v : ℕ) → v ≢ root → distance_at (lone_row root) v ≡ None
lone_is_far root v other =
    let alone : ReachFrom = record { first = root; distances = Some 0 ∷ []; hops = [] } in
    elim (cases_lt v root) [
      | inl before ↦ front_is_far alone v before
      | inr past ↦ back_is_far alone v (omega (arith, past, other))
    ]
