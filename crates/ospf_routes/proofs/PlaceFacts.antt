-- Lists, place by place.
use Rattle.std.proofs.lemmas.Grind.{common_steps}
use Rattle.std.proofs.Common.{◌≡◌, ◌⊎◌, ℕ, ◌+◌, ◌<◌, List, [], ◌∷◌, ◌++◌, Option, None, Some, arith, get_or, set}
use Rattle.std.proofs.Common.{length-append}
use Rattle.std.proofs.lemmas.Bool.{cases_eq, cases_lt}
use Rattle.std.proofs.lemmas.List.{get_or_default, get_or-set_same, get_or-set_other, set_past}
use Rattle.std.proofs.lemmas.Option.{same_Some}
use Rattle.route_tables.proofs.ListFacts.{each_more}
use Rattle.ospf_routes.specs.steps.Places.{AreEach}

pub places_more : {X : Type 0} (R : ℕ → X → Type 0) (none : X) (n : ℕ) (all : List X) (next : X) → AreEach R none n all → R n next →
    AreEach R none (n + 1) (all ++ next ∷ [])
places_more R none n all next are is = record {
  count = let long = length-append all (next ∷ []) in omega (arith, are.count);
  each = each_more R all n next none are.count are.each is;
}

-- what holds of a place, as it is read
pub place_read : {X : Type 0} (R : ℕ → X → Type 0) (none : X) (n : ℕ) (all : List X) (k : ℕ) (here : X) → AreEach R none n all → k < n →
    here ≡ get_or all k here → R k here
place_read R none n all k here are within is = grind (arith, common_steps, get_or_default)

-- what is noted under a number is noted now, or was before
pub noted_or_before : (old : List (Option ℕ)) (number place n k : ℕ) → get_or (set old number (Some place)) n None ≡ Some k →
    (k ≡ place) ⊎ (get_or old n None ≡ Some k)
noted_or_before old number place n k is =
    grind (arith, common_steps, cases_eq, cases_lt, get_or-set_other, get_or-set_same, same_Some, set_past)
