-- Walks that meet each router once, and what they cost by weights of the routers that they meet.
use Rattle.std.proofs.Common.{◌≡◌, ◌≢◌, ℕ, zero, suc, ◌+◌, ◌<◌, ◌≤◌, List, [], ◌∷◌, get_or, set, length}
use Rattle.std.proofs.Common.{get_or-set_other, refl, sym, ap, subst, ◌∙◌, arith}
use Rattle.std.proofs.Common.{◌⊎◌, inl, inr}
use Rattle.std.specs.List.{sum_by}
use Rattle.std.proofs.lemmas.Bool.{cases_lt, cases_eq}
use Rattle.std.proofs.lemmas.List.{get_or_past, set_past}
use Rattle.std.proofs.lemmas.List.Sums.{sum_by-set}
use Rattle.walk_core.specs.Walks.{Arcs, Leg, Walks, walk_cost, LeastCost}
use Rattle.walk_core.specs.Offers.{Offers, BestCost}
use Rattle.walk_core.proofs.WalkLaws.{least_cost_at_most, least_cost_from}

-- some walk leads from u to v
abbrev pub Reaches : Arcs → ℕ → ℕ → Type 0
Reaches arc u v = (legs : List Leg) × Walks arc u legs v

-- P holds of each router of the list
abbrev pub Each : (ℕ → Type 0) → List ℕ → Type 0
Each P [] = Unit {0}
Each P (x ∷ xs) = P x × Each P xs

-- no router of the list is x
abbrev pub Lacks : ℕ → List ℕ → Type 0
Lacks x xs = Each (λ y. x ≢ y) xs

-- no router stands twice in the list
abbrev pub Once : List ℕ → Type 0
Once [] = Unit {0}
Once (x ∷ xs) = Lacks x xs × Once xs

-- what the routers of a list weigh together
abbrev pub weight : List ℕ → List ℕ → ℕ
weight ws [] = 0
weight ws (x ∷ xs) = get_or ws x 0 + weight ws xs

-- the sum of all weights
abbrev pub total : List ℕ → ℕ
total ws = sum_by (λ (w : ℕ). w) ws

-- routers that aren't x weigh the same without the weight of x
weight_without : (ws : List ℕ) (x : ℕ) (xs : List ℕ) → Lacks x xs → weight (set ws x 0) xs ≡ weight ws xs
weight_without ws x [] lacks = refl
weight_without ws x (y ∷ xs) lacks =
    omega (arith, get_or-set_other ws x y 0 0 (λ same. lacks.0 (sym same)), weight_without ws x xs lacks.1)

-- what is at most the sum without the weight of x
beside : (ws : List ℕ) (x n : ℕ) → n ≤ total (set ws x 0) → get_or ws x 0 + n ≤ total ws
beside ws x n most = elim (cases_lt x (length ws)) [
  | inl within ↦ omega (arith, sum_by-set (λ (w : ℕ). w) ws x 0 0 within)
  | inr past ↦ omega (arith, get_or_past ws x 0 (omega arith), ap total (set_past ws x 0 (omega arith)))
]

-- two lists without a common router weigh at most the sum
weight_of_two : (ws xs ys : List ℕ) → Once xs → Once ys → Each (λ x. Lacks x ys) xs → weight ws xs + weight ws ys ≤ total ws
weight_of_two ws [] [] one two apart = omega arith
weight_of_two ws [] (y ∷ ys) one two apart =
    let less = set ws y 0 in
    omega (arith, weight_without ws y ys two.0, beside ws y (0 + weight less ys) (weight_of_two less [] ys tt two.1 tt))
weight_of_two ws (x ∷ xs) ys one two apart =
    let less = set ws x 0 in
    let rest = weight_of_two less xs ys one.1 two apart.1 in
    let both = beside ws x (weight less xs + weight less ys) rest in
    omega (arith, weight_without ws x xs one.0, weight_without ws x ys apart.0, both)

-- the routers that a walk meets
abbrev pub met : ℕ → List Leg → List ℕ
met u [] = u ∷ []
met u (leg ∷ legs) = u ∷ met leg.to legs

-- each arc costs at most the weight of the router that it leaves
abbrev pub HaveWeights : Arcs → List ℕ → Type 0
HaveWeights arc ws = (x y c : ℕ) → arc x y c → c ≤ get_or ws x 0

-- each arc has one that leads back
abbrev pub LeadBack : Arcs → Type 0
LeadBack arc = (x y c : ℕ) → arc x y c → (d : ℕ) × arc y x d

module _ (arc : Arcs) where
  -- a walk from u to v that meets each router once
  pub record SimpleWalk (u v : ℕ) : Type 0 where
    pub legs : List Leg
    pub leads : Walks arc u legs v
    pub once : Once (met u legs)

  -- the rest of such a walk from x on, where it meets x
  rest_from : (x w : ℕ) (legs : List Leg) (v : ℕ) → Walks arc w legs v → Once (met w legs) → SimpleWalk x v ⊎ Lacks x (met w legs)
  rest_from x w [] v leads once = elim (cases_eq x w) [
    | inl same ↦ inl (record { legs = []; leads = same ∙ leads; once = (tt, tt) })
    | inr other ↦ inr (other, tt)
  ]
  rest_from x w (leg ∷ legs) v leads once = elim (cases_eq x w) [
    | inl same ↦ inl (subst (λ n. SimpleWalk n v) (sym same) (record { legs = leg ∷ legs; leads = leads; once = once }))
    | inr other ↦ elim (rest_from x leg.to legs v leads.1 once.1) [ inl rest ↦ inl rest | inr lacks ↦ inr (other, lacks) ]
  ]

  -- where a walk leads, one leads that meets each router once
  simple : (u : ℕ) (legs : List Leg) (v : ℕ) → Walks arc u legs v → SimpleWalk u v
  simple u [] v leads = record { legs = []; leads = leads; once = (tt, tt) }
  simple u (leg ∷ legs) v leads =
      let rest = simple leg.to legs v leads.1 in
      elim (rest_from u leg.to rest.legs v rest.leads rest.once) [
        | inl shorter ↦ shorter
        | inr lacks ↦ record { legs = leg ∷ rest.legs; leads = (leads.0, rest.leads); once = (lacks, rest.once) }
      ]

  -- each router that a walk meets reaches its end
  reach_end : (u : ℕ) (legs : List Leg) (v : ℕ) → Walks arc u legs v → Each (λ x. Reaches arc x v) (met u legs)
  reach_end u [] v leads = (([], leads), tt)
  reach_end u (leg ∷ legs) v leads = ((leg ∷ legs, leads), reach_end leg.to legs v leads.1)

  -- a walk costs at most what the routers that it leaves weigh
  cost_by_weight : (ws : List ℕ) → HaveWeights arc ws → (u : ℕ) (legs : List Leg) (v : ℕ) → Walks arc u legs v →
      walk_cost legs + get_or ws v 0 ≤ weight ws (met u legs)
  cost_by_weight ws have u [] v leads = omega (arith, ap (λ n. get_or ws n 0) leads)
  cost_by_weight ws have u (leg ∷ legs) v leads =
      omega (arith, have u leg.to leg.cost leads.0, cost_by_weight ws have leg.to legs v leads.1)

  -- a cost by weights: it is at most what some routers weigh, each once, that reach v
  pub record CostBy (ws : List ℕ) (v cost : ℕ) : Type 0 where
    pub routers : List ℕ
    pub once : Once routers
    pub reach : Each (λ x. Reaches arc x v) routers
    pub most : cost ≤ weight ws routers

  -- a least walk, and what is asked where it ends: at most the weight there
  pub cost_by : (ws : List ℕ) → HaveWeights arc ws → (u v d asks : ℕ) → LeastCost arc u v d → asks ≤ get_or ws v 0 →
      CostBy ws v (d + asks)
  cost_by ws have u v d asks least light =
      let walk = simple u least.legs v least.walk.leads in
      record {
        routers = met u walk.legs;
        once = walk.once;
        reach = reach_end u walk.legs v walk.leads;
        most =
            omega (arith, light, least_cost_at_most least walk.legs walk.leads, cost_by_weight ws have u walk.legs v walk.leads);
      }

  -- it is at most the sum of the weights
  pub one_cost : (ws : List ℕ) (v c : ℕ) → CostBy ws v c → c ≤ total ws
  one_cost ws v c by = omega (arith, by.most, weight_of_two ws [] by.routers tt by.once tt)

  joined : (u : ℕ) (legs : List Leg) (v w : ℕ) → Walks arc u legs v → Reaches arc v w → Reaches arc u w
  joined u [] v w leads on = subst (λ n. Reaches arc n w) (sym leads) on
  joined u (leg ∷ legs) v w leads on = let rest = joined leg.to legs v w leads.1 on in (leg ∷ rest.0, (leads.0, rest.1))

  turned : LeadBack arc → (u : ℕ) (legs : List Leg) (v : ℕ) → Walks arc u legs v → Reaches arc v u
  turned back u [] v leads = ([], sym leads)
  turned back u (leg ∷ legs) v leads =
      let way = turned back leg.to legs v leads.1 in
      let last = back u leg.to leg.cost leads.0 in
      joined v way.0 leg.to u way.1 (record { to = u; cost = last.0 } ∷ [], (last.1, refl))

  -- a router that reaches v isn't one of those that reach w, where v doesn't reach w
  lacked : LeadBack arc → (v w x : ℕ) → (Reaches arc v w → ⊥) → Reaches arc x v → (ys : List ℕ) → Each (λ y. Reaches arc y w) ys →
      Lacks x ys
  lacked back v w x apart to [] reach = tt
  lacked back v w x apart to (y ∷ ys) reach = (
    λ same.
        let way = turned back x to.0 v to.1 in
        apart (joined v way.0 x w way.1 (subst (λ n. Reaches arc n w) (sym same) reach.0)),
    lacked back v w x apart to ys reach.1,
  )

  all_lacked : LeadBack arc → (v w : ℕ) → (Reaches arc v w → ⊥) → (xs ys : List ℕ) → Each (λ x. Reaches arc x v) xs →
      Each (λ y. Reaches arc y w) ys → Each (λ x. Lacks x ys) xs
  all_lacked back v w apart [] ys one two = tt
  all_lacked back v w apart (x ∷ xs) ys one two =
      (lacked back v w x apart one.0 ys two, all_lacked back v w apart xs ys one.1 two)

  -- two costs of walks to ends that don't reach each other are at most the sum of the weights
  pub two_costs : LeadBack arc → (ws : List ℕ) (v c w d : ℕ) → CostBy ws v c → CostBy ws w d → (Reaches arc v w → ⊥) →
      c + d ≤ total ws
  two_costs back ws v c w d one two apart =
      let apart_all = all_lacked back v w apart one.routers two.routers one.reach two.reach in
      omega (arith, one.most, two.most, weight_of_two ws one.routers two.routers one.once two.once apart_all)

  -- where there is no best cost, no walk leads to an offer: the least of them would be the best
  none_offered : (offer : Offers) (u : ℕ) → ((cost : ℕ) → BestCost arc offer u cost → ⊥) →
      (n : ℕ) (legs : List Leg) (at asks : ℕ) → Walks arc u legs at → offer at asks → walk_cost legs + asks < n → ⊥
  none_offered offer u none zero legs at asks leads offered below = omega (arith, below)
  none_offered offer u none (suc n) legs at asks leads offered below =
      none (walk_cost legs + asks) (record {
        at = at;
        attained = record {
          asks = asks;
          walk = walk_cost legs;
          offered = offered;
          reached = least_cost_from (walk_cost legs) legs leads refl
              (λ others other. under (walk_cost legs) (walk_cost others)
              (λ less. none_offered offer u none n others at asks other offered (omega (arith, less, below))));
          costs = refl;
        };
        least = λ other less costs. under (walk_cost legs + asks) less
            (λ small. let reached = costs.reached in
            none_offered offer u none n reached.legs other costs.asks reached.walk.leads costs.offered
            (omega (arith, small, below, reached.costs, costs.costs)));
      })
    where
      under : (a b : ℕ) → (b < a → ⊥) → a ≤ b
      under a b not = elim (cases_lt b a) [ inl less ↦ absurd (not less) | inr most ↦ omega (arith, most) ]

  -- a walk to an offer, and no best cost: that isn't so
  pub offered_has_best : (offer : Offers) (u at asks : ℕ) → Reaches arc u at → offer at asks →
      ((cost : ℕ) → BestCost arc offer u cost → ⊥) → ⊥
  offered_has_best offer u at asks way offered none =
      none_offered offer u none (suc (walk_cost way.0 + asks)) way.0 at asks way.1 offered (omega arith)
