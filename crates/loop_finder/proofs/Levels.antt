-- Marks by layers.
use Rattle.std.proofs.Common.{◌≡◌, ℕ, ◌+◌, ◌<◌, ◌≤◌, ◌^◌, Bool, List, [], ◌∷◌, All, Contains, inl, inr, arith, sym, subst, below_more}
use Rattle.std.proofs.lemmas.Bool.{cases_lt}
use Rattle.std.proofs.lemmas.List.Elements.{All-contains}
use Rattle.igp_theory.specs.States.{Follows}
use Rattle.order_core.specs.Marks.{IsMarked}
use Rattle.loop_finder.specs.steps.Returns.{HasLayer, IsLevelled, MarksAgain, layer_in}
use Rattle.loop_finder.proofs.LowestSteps.{marked_cases}

-- from the first i routers no step leads higher, and those without layer keep their marks
pub record AreLevelled (step : ℕ → ℕ → Type 0) (layers : List ℕ) (start marks : List Bool) (i : ℕ) : Type 0 where
  pub level : (u : ℕ) → u < i → IsLevelled step layers marks u
  pub stay : (u : ℕ) → (¬ HasLayer layers u) → IsMarked start u → IsMarked marks u

-- one router more
pub AreLevelled-more : (step : ℕ → ℕ → Type 0) (layers : List ℕ) (start old new : List Bool) (i : ℕ) → AreLevelled step layers start old i
    → IsLevelled step layers new i → ((u : ℕ) → (u ≡ i → ¬ HasLayer layers u) → IsMarked old u → IsMarked new u) → AreLevelled step layers start new (i + 1)
AreLevelled-more step layers start old new i levelled here kept = record {
  level = below_more (IsLevelled step layers new) i (λ u below. record {
    no_higher = (levelled.level u below).no_higher;
    lower = λ has bare. (levelled.level u below).lower has (λ marked. bare (kept u (λ same. absurd (omega (arith, same, below))) marked));
  }) here;
  stay = λ u none marked. kept u (λ same. none) (levelled.stay u none marked);
}

-- once all routers are compared, a walk that returns to a router without mark passes none that has a layer
pub marks_again : (step : ℕ → ℕ → Type 0) (layers changed : List ℕ) (start marks : List Bool) (i : ℕ) → AreLevelled step layers start marks i
    → ((u h : ℕ) → step u h → u < i) → All (HasLayer layers) changed → MarksAgain step changed start marks
marks_again step layers changed start marks i levelled inside have u h hops follows = elim (cases_lt (layer_in layers u + 1) (2 ^ 32)) [
  | inl has ↦ elim (marked_cases marks u) [
    | inl marked ↦ inl marked
    | inr bare ↦
        let first : layer_in layers h < layer_in layers u = (levelled.level u (inside u h follows.0)).lower has bare h follows.0 in
        let rest : layer_in layers u ≤ layer_in layers h = falls h hops u (omega (arith, first, has)) follows.1 in
        absurd (omega (arith, first, rest))
  ]
  | inr past ↦
      let none : ¬ HasLayer layers u = λ has. omega (arith, has, past) in
      inr (levelled.stay u none, (avoids u (h ∷ hops) u none follows).1)
]
  where
    no_higher : (x y : ℕ) → HasLayer layers x → step x y → layer_in layers y ≤ layer_in layers x
    no_higher x y has steps = (levelled.level x (inside x y steps)).no_higher has y steps

    falls : (x : ℕ) (rest : List ℕ) (v : ℕ) → HasLayer layers x → Follows step x rest v → layer_in layers v ≤ layer_in layers x
    falls x [] v has same = subst (λ (y : ℕ). layer_in layers y ≤ layer_in layers x) same (omega arith)
    falls x (y ∷ rest) v has walk =
        let first : layer_in layers y ≤ layer_in layers x = no_higher x y has walk.0 in
        let last : layer_in layers v ≤ layer_in layers y = falls y rest v (omega (arith, first, has)) walk.1 in
        omega (arith, first, last)

    avoids : (x : ℕ) (rest : List ℕ) (v : ℕ) → (¬ HasLayer layers v) → Follows step x rest v
        → (¬ HasLayer layers x) × Follows (λ a b. step a b × ¬ Contains changed a) x rest v
    avoids x [] v none same = (subst (λ (y : ℕ). ¬ HasLayer layers y) (sym same) none, same)
    avoids x (y ∷ rest) v none walk =
        let on = avoids y rest v none walk.1 in
        let here : ¬ HasLayer layers x = λ has. let first : layer_in layers y ≤ layer_in layers x = no_higher x y has walk.0 in
        on.0 (omega (arith, first, has)) in
        (here, ((walk.0, λ among. here (All-contains (HasLayer layers) changed x have among)), on.1))
