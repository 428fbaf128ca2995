-- The nearest vertices of a segment, one port after another.
use Rattle.std.proofs.lemmas.Grind.{common_steps}
use Rattle.std.proofs.Common.{◌≡◌, ℕ, ◌+◌, ◌<◌, ◌≤◌, ◌↔◌, ◌⊎◌, List, [], ◌∷◌, ◌++◌, Option, Some, None, Contains, length, take, get_or, min, inl, inr}
use Rattle.std.proofs.Common.{refl, sym, ap, subst, ◌∙◌, arith}
use Rattle.std.proofs.lemmas.List.{get_or_default, take_more, take_all}
use Rattle.std.proofs.lemmas.List.Elements.{Contains-append_left, Contains-push, Contains-push_cases}
use Rattle.std.proofs.lemmas.Option.{none-some, same_Some}
use Rattle.walk_core.specs.steps.BestOver.{least_cost_of}
use Rattle.walk_core.specs.declared.segment.Port.{Port}
use Rattle.walk_core.specs.steps.Cheapest.{HasCost, IsCheapest, IsCheapestCost}
use Rattle.walk_core.specs.steps.SegmentWalks.{AreEnds, IsEndAt, JoinsNearest, Nearest, beyond_port, nowhere, farther, as_near, first, nearer}
use Rattle.walk_core.proofs.CheapestLaws.{cheapest_step, nothing_costs}

-- these are the nearest ones of the ports
pub record AreNearest (rows : List (List (Option ℕ))) (ports : List Port) (v : ℕ) (nearest : Nearest) : Type 0 where
  pub cheapest : IsCheapestCost (beyond_port rows v) ports nearest.distance
  pub ends : AreEnds rows ports v nearest.distance nearest.ends

-- of no ports
pub none_nearest : (rows : List (List (Option ℕ))) (v : ℕ) (nearest : Nearest) → nearest.distance ≡ None → nearest.ends ≡ [] → AreNearest rows [] v nearest
none_nearest rows v nearest nothing empty = grind (arith, common_steps, none-some, nothing_costs)

-- an end of more ports is one of the first ones, or that of the last one
end_cases : (rows : List (List (Option ℕ))) (ports : List Port) (port : Port) (v d h : ℕ) →
    IsEndAt rows (ports ++ port ∷ []) (record { vertex = v; distance = d }) h →
    IsEndAt rows ports (record { vertex = v; distance = d }) h ⊎ ((beyond_port rows v port ≡ Some d) × (port.vertex ≡ h))
end_cases rows ports port v d h end = grind (arith, common_steps, Contains-push_cases)

end_kept : (rows : List (List (Option ℕ))) (ports : List Port) (port : Port) (v d h : ℕ) → IsEndAt rows ports (record { vertex = v; distance = d }) h →
    IsEndAt rows (ports ++ port ∷ []) (record { vertex = v; distance = d }) h
end_kept rows ports port v d h end = record { thing = end.thing; among = Contains-append_left ports (port ∷ []) end.thing end.among; leads = end.leads }

end_here : (rows : List (List (Option ℕ))) (ports : List Port) (port : Port) (v d h : ℕ) → beyond_port rows v port ≡ Some d → port.vertex ≡ h →
    IsEndAt rows (ports ++ port ∷ []) (record { vertex = v; distance = d }) h
end_here rows ports port v d h far same = record { thing = port; among = Contains-push ports port; leads = record { far = far; vertex = same } }

-- the ends with one more port, whose vertex is at another distance than they are
ends_stay : (rows : List (List (Option ℕ))) (ports : List Port) (port : Port) (v : ℕ) (nearest : Option ℕ) (ends : List ℕ) →
    ((d : ℕ) → nearest ≡ Some d → beyond_port rows v port ≡ Some d → ⊥) → AreEnds rows ports v nearest ends → AreEnds rows (ports ++ port ∷ []) v nearest ends
ends_stay rows ports port v nearest ends apart are = record {
  some = λ d h is. (
    λ has. end_kept rows ports port v d h ((are.some d h is).0 has),
    λ end. elim (end_cases rows ports port v d h end) [
      | inl earlier ↦ (are.some d h is).1 earlier
      | inr now ↦ absurd (apart d is now.0)
    ],
  );
  none = are.none;
}

-- where none was as near as it is
ends_begin : (rows : List (List (Option ℕ))) (ports : List Port) (port : Port) (v d : ℕ) → beyond_port rows v port ≡ Some d →
    (HasCost (beyond_port rows v) ports d → ⊥) → AreEnds rows (ports ++ port ∷ []) v (Some d) (port.vertex ∷ [])
ends_begin rows ports port v d far none = record {
  some = λ e h is.
      let same : d ≡ e = same_Some d e is in (
        λ has. elim (Contains-push_cases [] port.vertex h has) [
          | inl nothing ↦ absurd (omega (arith, nothing.1))
          | inr here ↦ end_here rows ports port v e h (far ∙ is) here
        ],
        λ end. elim (end_cases rows ports port v e h end) [
          | inl earlier ↦ absurd (none (record {
            thing = earlier.thing;
            among = earlier.among;
            costs = earlier.leads.far ∙ sym is;
          }))
          | inr now ↦ subst (λ (n : ℕ). Contains (port.vertex ∷ []) n) now.1 (Contains-push [] port.vertex)
        ],
      );
  none = λ is. absurd (none-some d (sym is));
}

-- where the others are as near
ends_join : (rows : List (List (Option ℕ))) (ports : List Port) (port : Port) (v d : ℕ) (ends : List ℕ) → beyond_port rows v port ≡ Some d →
    AreEnds rows ports v (Some d) ends → AreEnds rows (ports ++ port ∷ []) v (Some d) (ends ++ port.vertex ∷ [])
ends_join rows ports port v d ends far are = record {
  some = λ e h is. (
    λ has. elim (Contains-push_cases ends port.vertex h has) [
      | inl earlier ↦ end_kept rows ports port v e h ((are.some e h is).0 earlier)
      | inr here ↦ end_here rows ports port v e h (far ∙ is) here
    ],
    λ end. elim (end_cases rows ports port v e h end) [
      | inl earlier ↦ Contains-append_left ends (port.vertex ∷ []) h ((are.some e h is).1 earlier)
      | inr now ↦ subst (λ (n : ℕ). Contains (ends ++ port.vertex ∷ []) n) now.1 (Contains-push ends port.vertex)
    ],
  );
  none = λ is. absurd (none-some d (sym is));
}

-- with one more port
pub nearest_step : (rows : List (List (Option ℕ))) (ports : List Port) (i : ℕ) (none : Port) (v : ℕ) (before : Nearest)
    (distance next : Option ℕ) (ends : List ℕ) → i < length ports →
    distance ≡ beyond_port rows v (get_or ports i none) → next ≡ least_cost_of before.distance distance →
    JoinsNearest (get_or ports i none).vertex distance before ends → AreNearest rows (take i ports) v before →
    AreNearest rows (take (i + 1) ports) v (record { distance = next; ends = ends })
nearest_step rows ports i none v before distance next ends within is least joins are = record {
  cheapest = cheapest_step (beyond_port rows v) ports i port before.distance distance next within
      (get_or_default ports i port none within) is least are.cheapest;
  ends = subst (λ (l : List Port). AreEnds rows l v next ends) (sym (take_more ports i none within)) (go joins);
}
  where
    port : Port
    port = get_or ports i none

    front : List Port
    front = take i ports

    with_none : (d : Option ℕ) → least_cost_of d None ≡ d
    with_none None = refl
    with_none (Some d) = refl

    with_both : (n d m : ℕ) → before.distance ≡ Some n → distance ≡ Some d → min n d ≡ m → next ≡ Some m
    with_both n d m was at lesser =
        least ∙ ap (λ (b : Option ℕ). least_cost_of b distance) was ∙ ap (least_cost_of (Some n)) at ∙ ap (λ (k : ℕ). Some k) lesser

    now : (d : Option ℕ) (l : List ℕ) → next ≡ d → ends ≡ l → AreEnds rows (front ++ port ∷ []) v d l → AreEnds rows (front ++ port ∷ []) v next ends
    now d l there same = λ at.
        subst (λ (e : List ℕ). AreEnds rows (front ++ port ∷ []) v next e) (sym same)
        (subst (λ (e : Option ℕ). AreEnds rows (front ++ port ∷ []) v e l) (sym there) at)

    go : JoinsNearest port.vertex distance before ends → AreEnds rows (front ++ port ∷ []) v next ends
    go (nowhere nothing same) =
        now before.distance before.ends (least ∙ ap (least_cost_of before.distance) nothing ∙ with_none before.distance) same
        (ends_stay rows front port v before.distance before.ends (λ d was far. none-some d (sym nothing ∙ is ∙ far)) are.ends)
    go (farther n d at was less same) =
        now before.distance before.ends (with_both n d n was at (omega arith) ∙ sym was) same
        (ends_stay rows front port v before.distance before.ends
        (λ e near far. let one = same_Some n e (sym was ∙ near) in let other = same_Some d e (sym at ∙ is ∙ far) in omega arith) are.ends)
    go (as_near d at was same) =
        now (Some d) (before.ends ++ port.vertex ∷ []) (with_both d d d was at (omega arith)) same
        (ends_join rows front port v d before.ends (sym is ∙ at) (subst (λ (e : Option ℕ). AreEnds rows front v e before.ends) was are.ends))
    go (first d at was same) =
        let nothing = subst (λ (e : Option ℕ). IsCheapestCost (beyond_port rows v) front e) was are.cheapest in
        now (Some d) (port.vertex ∷ []) (least ∙ ap (λ (b : Option ℕ). least_cost_of b distance) was ∙ at) same
        (ends_begin rows front port v d (sym is ∙ at) (λ has. nothing d has))
    go (nearer n d at was less same) =
        let best : IsCheapest (beyond_port rows v) front n = subst (λ (e : Option ℕ). IsCheapestCost (beyond_port rows v) front e) was are.cheapest in
        now (Some d) (port.vertex ∷ []) (with_both n d d was at (omega arith)) same
        (ends_begin rows front port v d (sym is ∙ at) (λ has. let most = best.least d has in omega arith))

-- of all ports
pub nearest_of_all : (rows : List (List (Option ℕ))) (ports : List Port) (i v : ℕ) (nearest : Nearest) → length ports ≤ i →
    AreNearest rows (take i ports) v nearest → AreNearest rows ports v nearest
nearest_of_all rows ports i v nearest past are = subst (λ (l : List Port). AreNearest rows l v nearest) (take_all i ports past) are

-- a list with the same numbers has the same ends
pub ends_ordered : (rows : List (List (Option ℕ))) (ports : List Port) (v : ℕ) (distance : Option ℕ) (ends ordered : List ℕ) →
    ((n : ℕ) → Contains ordered n ↔ Contains ends n) → AreEnds rows ports v distance ends → AreEnds rows ports v distance ordered
ends_ordered rows ports v distance ends ordered same are = record {
  some = λ d h is. (λ has. (are.some d h is).0 ((same h).0 has), λ end. (same h).1 ((are.some d h is).1 end));
  none = λ is. nothing_in ordered (λ n has.
      let nowhere : Contains [] n = subst (λ (l : List ℕ). Contains l n) (are.none is) ((same n).0 has) in omega (arith, nowhere.1));
}
  where
    nothing_in : (list : List ℕ) → ((n : ℕ) → Contains list n → ⊥) → list ≡ []
    nothing_in [] none = refl
    nothing_in (n ∷ rest) none = absurd (none n (Contains-append_left (n ∷ []) rest n (Contains-push [] n)))
