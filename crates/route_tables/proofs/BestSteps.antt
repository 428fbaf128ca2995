-- The best of some offers, offer by offer, and a vertex that alone makes the best ones.
use Rattle.std.proofs.lemmas.Grind.{common_steps}
use Rattle.std.proofs.Common.{◌≡◌, ℕ, ◌+◌, ◌<◌, ◌≤◌, ◌⊎◌, inl, inr, List, [], ◌∷◌, ◌++◌, Option, Some, None, length, get_or, take, refl, sym, ap}
use Rattle.std.proofs.Common.{subst, ◌∙◌, arith}
use Rattle.std.specs.List.{Contains}
use Rattle.std.proofs.lemmas.Option.{none-some, same_Some}
use Rattle.std.proofs.lemmas.List.{take_more}
use Rattle.std.proofs.lemmas.List.Elements.{Contains-append_left, Contains-push, Contains-push_cases}
use Rattle.walk_core.specs.Reach.{Reach, HasHop}
use Rattle.walk_core.specs.BestOffers.{HasTotal, NoneTotals, IsBestTotal, total_towards, total_with}
use Rattle.walk_core.specs.declared.offers.Offer.{Offer}
use Rattle.route_tables.specs.BestRoutes.{AreBestHops}
use Rattle.route_tables.specs.Routings.{AreHopsTo, IsReached}
use Rattle.route_tables.specs.declared.best.BestAt.{BestAt}
use Rattle.route_tables.specs.steps.BestSoFar.{IsBestAt, IsBestSoFar, IsBetterOf, LeadAlike, lower, kept, both}

-- an offer of the first ones is one of more
abbrev total_kept : (reach : Reach) (front : List Offer) (o : Offer) (c : ℕ) → HasTotal reach front c → HasTotal reach (front ++ o ∷ []) c
total_kept reach front o c has = record { offer = has.offer; among = Contains-append_left front (o ∷ []) has.offer has.among; total = has.total }

abbrev total_here : (reach : Reach) (front : List Offer) (o : Offer) (c : ℕ) → total_towards reach o ≡ Some c → HasTotal reach (front ++ o ∷ []) c
total_here reach front o c is = record { offer = o; among = Contains-push front o; total = is }

-- an offer of one more is one of the first ones, or that one
total_cases : (reach : Reach) (front : List Offer) (o : Offer) (c : ℕ) → HasTotal reach (front ++ o ∷ []) c →
    HasTotal reach front c ⊎ (total_towards reach o ≡ Some c)
total_cases reach front o c has = grind (arith, common_steps, Contains-push_cases)

-- what an offer costs is one cost
one_total : (reach : Reach) (o : Offer) (a b : ℕ) → total_towards reach o ≡ Some a → total_towards reach o ≡ Some b → a ≡ b
one_total reach o a b one other = same_Some a b (sym one ∙ other)

unreached : (reach : Reach) (o x : Offer) (c : ℕ) → total_towards reach o ≡ None → o ≡ x → total_towards reach x ≡ Some c → ⊥
unreached reach o x c none same total = none-some c (sym none ∙ subst (λ (y : Offer). total_towards reach y ≡ Some c) (sym same) total)

-- of no offers there is no best one
pub best_of_none : (reach : Reach) → IsBestSoFar reach [] None
best_of_none reach = λ c has. absurd (omega (arith, has.among.1))

-- an offer that isn't reached changes nothing
pub unreached_more : (reach : Reach) (front : List Offer) (o : Offer) (best : Option BestAt) → total_towards reach o ≡ None →
    IsBestSoFar reach front best → IsBestSoFar reach (front ++ o ∷ []) best
unreached_more reach front o None none so_far = λ c has. elim (total_cases reach front o c has) [
  | inl earlier ↦ so_far c earlier
  | inr now ↦ unreached reach o o c none refl now
]
unreached_more reach front o (Some b) none is = record {
  best_total = record {
    attained = total_kept reach front o b.cost is.best_total.attained;
    least = λ c has. elim (total_cases reach front o c has) [
      | inl earlier ↦ is.best_total.least c earlier
      | inr now ↦ absurd (unreached reach o o c none refl now)
    ];
  };
  made = is.made;
  alone = λ yes x among total. elim (Contains-push_cases front o x among) [
    | inl earlier ↦ is.alone yes x earlier total
    | inr same ↦ absurd (unreached reach o x b.cost none same total)
  ];
}

-- the first offer that is reached is the best so far
pub first_more : (reach : Reach) (front : List Offer) (o : Offer) (next : BestAt) → total_towards reach o ≡ Some next.cost → o.at ≡ next.at →
    NoneTotals reach front → IsBestAt reach (front ++ o ∷ []) next
first_more reach front o next is at none = record {
  best_total = record {
    attained = total_here reach front o next.cost is;
    least = λ c has. elim (total_cases reach front o c has) [
      | inl earlier ↦ absurd (none c earlier)
      | inr now ↦ let same = one_total reach o next.cost c is now in omega arith
    ];
  };
  made = at;
  alone = λ yes x among total. elim (Contains-push_cases front o x among) [
    | inl earlier ↦ absurd (none next.cost (record { offer = x; among = earlier; total = total }))
    | inr same ↦ ap (λ (y : Offer). y.at) (sym same) ∙ at
  ];
}

-- the least of the best total so far and of one more
least_of_both : (reach : Reach) (front : List Offer) (o : Offer) (known next cost : ℕ) → total_towards reach o ≡ Some next → IsBestTotal reach front known →
    cost ≤ known → cost ≤ next → (c : ℕ) → HasTotal reach (front ++ o ∷ []) c → cost ≤ c
least_of_both reach front o known next cost is best below_known below_next c has = elim (total_cases reach front o c has) [
  | inl earlier ↦ let least = best.least c earlier in omega arith
  | inr now ↦ let same = one_total reach o next c is now in omega arith
]

-- the better of the best so far and of one more offer
pub better_more : (reach : Reach) (front : List Offer) (o : Offer) (known next better : BestAt) → total_towards reach o ≡ Some next.cost → o.at ≡ next.at →
    IsBestAt reach front known → IsBetterOf known next better → IsBestAt reach (front ++ o ∷ []) better
better_more reach front o known next better is at best (lower less same) =
    subst (IsBestAt reach (front ++ o ∷ [])) (sym same) (record {
      best_total = record {
        attained = total_here reach front o next.cost is;
        least = least_of_both reach front o known.cost next.cost next.cost is best.best_total (omega arith) (omega arith);
      };
      made = at;
      alone = λ yes x among total. elim (Contains-push_cases front o x among) [
        | inl earlier ↦ let least = best.best_total.least next.cost (record { offer = x; among = earlier; total = total }) in absurd (omega arith)
        | inr here ↦ ap (λ (y : Offer). y.at) (sym here) ∙ at
      ];
    })
better_more reach front o known next better is at best (kept less same) =
    subst (IsBestAt reach (front ++ o ∷ [])) (sym same) (record {
      best_total = record {
        attained = total_kept reach front o known.cost best.best_total.attained;
        least = least_of_both reach front o known.cost next.cost known.cost is best.best_total (omega arith) (omega arith);
      };
      made = best.made;
      alone = λ yes x among total. elim (Contains-push_cases front o x among) [
        | inl earlier ↦ best.alone yes x earlier total
        | inr here ↦
            let cost = one_total reach o next.cost known.cost is (subst (λ (y : Offer). total_towards reach y ≡ Some known.cost) (sym here) total) in
            absurd (omega arith)
      ];
    })
better_more reach front o known next better is at best (both same cost place alone) = record {
  best_total = record {
    attained = let has = total_kept reach front o known.cost best.best_total.attained in
        record { offer = has.offer; among = has.among; total = has.total ∙ ap Some (sym cost) };
    least = least_of_both reach front o known.cost next.cost better.cost is best.best_total (omega arith) (omega arith);
  };
  made = best.made ∙ sym place;
  alone = λ yes x among total. elim (Contains-push_cases front o x among) [
    | inl earlier ↦ best.alone (alone yes).0 x earlier (total ∙ ap Some cost) ∙ sym place
    | inr here ↦ ap (λ (y : Offer). y.at) (sym here) ∙ at ∙ sym (alone yes).1 ∙ sym place
  ];
}

-- the step of the loop that looks for the best
pub best_step : (reach : Reach) (offers : List Offer) (i : ℕ) (d : Offer) (best next : Option BestAt) (total : Option ℕ) → i < length offers →
    total ≡ total_towards reach (get_or offers i d) →
    ((r : Reach) (l : List Offer) (o : Offer) → o.at ≡ (get_or offers i d).at → total_towards r o ≡ total → IsBestSoFar r l best →
    IsBestSoFar r (l ++ o ∷ []) next) →
    IsBestSoFar reach (take i offers) best → IsBestSoFar reach (take (i + 1) offers) next
best_step reach offers i d best next total within is better so_far =
    subst (λ (l : List Offer). IsBestSoFar reach l next) (sym (take_more offers i d within))
    (better reach (take i offers) (get_or offers i d) refl (sym is) so_far)

-- The vertex of the best offer

reached_by : (d : Option ℕ) (asks cost : ℕ) → total_with d asks ≡ Some cost → (distance : ℕ) × (d ≡ Some distance)
reached_by d asks cost is = grind (arith, common_steps, none-some)

-- it is reached
pub best_is_reached : (reach : Reach) (offers : List Offer) (best : BestAt) → IsBestAt reach offers best → IsReached reach best.at
best_is_reached reach offers best is = grind (arith, common_steps, reached_by)

-- the first hops below n towards each offer that costs this are among those towards the vertex
abbrev pub LeadBelow : Reach → List Offer → ℕ → BestAt → Type 0
LeadBelow reach offers n best = (o : Offer) → Contains offers o → total_towards reach o ≡ Some best.cost →
    (h : ℕ) → h < n → HasHop reach o.at h → HasHop reach best.at h

-- where all best offers have the first hops below n towards it, these are those towards the best offers
pub below_hops : (reach : Reach) (offers : List Offer) (best : BestAt) (n : ℕ) → IsBestAt reach offers best → LeadBelow reach offers n best →
    (hops : List ℕ) → AreHopsTo reach best.at n hops → AreBestHops reach offers n hops
below_hops reach offers best n is same hops to =
    let has = is.best_total.attained in
    record {
      cost = best.cost;
      best = is.best_total;
      towards = record {
        ascending = to.ascending;
        exact = λ h. (
          λ inside. let there = (to.exact h).0 inside in (
            there.0,
            record {
              offer = has.offer;
              among = has.among;
              total = has.total;
              hop = subst (λ (v : ℕ). HasHop reach v h) (sym is.made) there.1;
            },
          ),
          λ over. (to.exact h).1 (over.0, same over.1.offer over.1.among over.1.total h over.0 over.1.hop),
        );
      };
    }

-- and where all have all first hops towards it
pub alike_hops : (reach : Reach) (offers : List Offer) (best : BestAt) (n : ℕ) → IsBestAt reach offers best → LeadAlike reach offers best →
    (hops : List ℕ) → AreHopsTo reach best.at n hops → AreBestHops reach offers n hops
alike_hops reach offers best n is same = below_hops reach offers best n is
    (λ o among total h below has. subst (λ (l : List ℕ). Contains l h) (same o among total) has)
