-- The cheapest of some things, one more at a time.
use Rattle.std.proofs.lemmas.Grind.{common_steps}
use Rattle.std.proofs.Common.{◌≡◌, ℕ, ◌⊎◌, ◌+◌, ◌<◌, ◌≤◌, List, [], ◌∷◌, ◌++◌, Option, Some, None, min, inl, inr, refl, sym, ap, subst, ◌∙◌, arith, length}
use Rattle.std.proofs.Common.{take, get_or}
use Rattle.std.proofs.lemmas.Bool.{cases_lt}
use Rattle.std.proofs.lemmas.List.{take_more, take_all}
use Rattle.std.proofs.lemmas.List.Elements.{Contains-append_left, Contains-push, Contains-push_cases}
use Rattle.walk_core.specs.steps.BestOver.{least_cost_of}
use Rattle.walk_core.specs.steps.Cheapest.{HasCost, IsCheapestCost}

-- nothing has no cost
pub nothing_costs : {X : Type 0} (cost_of : X → Option ℕ) → IsCheapestCost cost_of [] None
nothing_costs cost_of cost has = omega (arith, has.among.1)

-- one of the first things is one of more
has_cost_kept : {X : Type 0} (cost_of : X → Option ℕ) (front : List X) (x : X) (c : ℕ) → HasCost cost_of front c → HasCost cost_of (front ++ x ∷ []) c
has_cost_kept cost_of front x c has = record { thing = has.thing; among = Contains-append_left front (x ∷ []) has.thing has.among; costs = has.costs }

-- one of more things is one of the first ones, or that one
has_cost_cases : {X : Type 0} (cost_of : X → Option ℕ) (front : List X) (x : X) (c : ℕ) → HasCost cost_of (front ++ x ∷ []) c →
    HasCost cost_of front c ⊎ (cost_of x ≡ Some c)
has_cost_cases {X} cost_of front x c has = grind (arith, common_steps, Contains-push_cases)

-- the least of two numbers is one of them
lesser : (a b : ℕ) → (min a b ≡ a) ⊎ (min a b ≡ b)
lesser a b = elim (cases_lt a b) [ inl less ↦ inl (omega arith) | inr more ↦ inr (omega arith) ]

-- the cheapest of the first things and of one more
pub cheapest_more : {X : Type 0} (cost_of : X → Option ℕ) (front : List X) (x : X) (best : Option ℕ) →
    IsCheapestCost cost_of front best → IsCheapestCost cost_of (front ++ x ∷ []) (least_cost_of best (cost_of x))
cheapest_more {X} cost_of front x best so_far = go best (cost_of x) refl so_far
  where
    here : (y : ℕ) → cost_of x ≡ Some y → HasCost cost_of (front ++ x ∷ []) y
    here y is = record { thing = x; among = Contains-push front x; costs = is }

    go : (b t : Option ℕ) → cost_of x ≡ t → IsCheapestCost cost_of front b → IsCheapestCost cost_of (front ++ x ∷ []) (least_cost_of b t)
    go None None is none = λ c has. elim (has_cost_cases cost_of front x c has) [
      | inl earlier ↦ none c earlier
      | inr now ↦ let k : None ≡ Some c = sym is ∙ now in cc
    ]
    go None (Some y) is none = record {
      attained = here y is;
      least = λ c has. elim (has_cost_cases cost_of front x c has) [
        | inl earlier ↦ absurd (none c earlier)
        | inr now ↦ let k : Some y ≡ Some c = sym is ∙ now in let e : y ≡ c = cc in omega arith
      ];
    }
    go (Some a) None is best = record {
      attained = has_cost_kept cost_of front x a best.attained;
      least = λ c has. elim (has_cost_cases cost_of front x c has) [
        | inl earlier ↦ best.least c earlier
        | inr now ↦ let k : None ≡ Some c = sym is ∙ now in absurd (cc)
      ];
    }
    go (Some a) (Some y) is best = record {
      attained = elim (lesser a y) [
        | inl first ↦ subst (λ (m : ℕ). HasCost cost_of (front ++ x ∷ []) m) (sym first) (has_cost_kept cost_of front x a best.attained)
        | inr second ↦ subst (λ (m : ℕ). HasCost cost_of (front ++ x ∷ []) m) (sym second) (here y is)
      ];
      least = λ c has. elim (has_cost_cases cost_of front x c has) [
        | inl earlier ↦ let k = best.least c earlier in omega arith
        | inr now ↦ let k : Some y ≡ Some c = sym is ∙ now in let e : y ≡ c = cc in omega arith
      ];
    }

-- one step of a loop that looks for the cheapest
pub cheapest_step : {X : Type 0} (cost_of : X → Option ℕ) (things : List X) (i : ℕ) (x : X) (best found new : Option ℕ) → i < length things →
    get_or things i x ≡ x → found ≡ cost_of x → new ≡ least_cost_of best found → IsCheapestCost cost_of (take i things) best →
    IsCheapestCost cost_of (take (i + 1) things) new
cheapest_step {X} cost_of things i x best found new within at found_is new_is so_far =
    let more : take (i + 1) things ≡ take i things ++ x ∷ [] = take_more things i x within ∙ ap (λ (y : X). take i things ++ y ∷ []) at in
    subst (λ (l : List X). IsCheapestCost cost_of l new) (sym more)
    (subst (λ (b : Option ℕ). IsCheapestCost cost_of (take i things ++ x ∷ []) b) (sym (new_is ∙ ap (least_cost_of best) found_is))
    (cheapest_more cost_of (take i things) x best so_far))

pub cheapest_end : {X : Type 0} (cost_of : X → Option ℕ) (things : List X) (i : ℕ) (best : Option ℕ) → length things ≤ i →
    IsCheapestCost cost_of (take i things) best → IsCheapestCost cost_of things best
cheapest_end {X} cost_of things i best past so_far = subst (λ (l : List X). IsCheapestCost cost_of l best) (take_all i things past) so_far
