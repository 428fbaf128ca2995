-- The outlets of all vertices, one port after another.
use Rattle.std.proofs.lemmas.Grind.{common_steps}
use Rattle.std.proofs.Common.{◌≡◌, ℕ, ◌+◌, ◌<◌, ◌≤◌, Any, List, [], ◌∷◌, ◌++◌, length, length-set, get_or}
use Rattle.std.proofs.Common.{get_or-set_same, get_or-set_other, replicate, set, sym, ap, subst, ◌∙◌, arith, inl, inr, Contains}
use Rattle.std.proofs.lemmas.Bool.{cases_eq}
use Rattle.std.proofs.lemmas.List.{get_or_default, get_or-replicate, length-replicate}
use Rattle.std.proofs.lemmas.List.Elements.{Contains-append_left, Contains-push, Contains-push_cases}
use borrow.Author.Count.{below_more}
use Rattle.walk_core.specs.declared.outlets.Outlet.{Outlet}
use Rattle.walk_core.specs.declared.segment.Port.{Port}
use Rattle.walk_core.specs.steps.Flooding.{segment_at}
use Rattle.walk_core.specs.steps.SegmentWalks.{IsFarEnd, IsOutlet, HasOutlet, ListsPorts, AreOutlets, AreOutletsBefore}

-- before the first segment there are none
pub no_outlets : (segments : List (List Port)) (count : ℕ) → AreOutletsBefore segments 0 (replicate count [])
no_outlets segments count u below = grind (arith, common_steps, get_or-replicate, length-replicate)

-- outlets that are listed stay so
outlet_kept : (outlets : List Outlet) (outlet : Outlet) (place cost : ℕ) → HasOutlet outlets place cost → HasOutlet (outlets ++ outlet ∷ []) place cost
outlet_kept outlets outlet place cost has = grind (arith, common_steps, Contains-append_left)

-- what is known of the outlets in the middle of a segment
pub record AreOutletsTo (segments : List (List Port)) (root place i : ℕ) (outlets : List Outlet) : Type 0 where
  pub each : (outlet : Outlet) → Contains outlets outlet → IsOutlet segments root outlet
  pub before : (j : ℕ) → j < place → ListsPorts (segment_at segments j) j root outlets
  pub here : (k : ℕ) → k < i → (port : Port) → get_or (segment_at segments place) k port ≡ port → port.vertex ≡ root → HasOutlet outlets place port.cost

-- one more port, which is the root's
outlets_yes : (segments : List (List Port)) (root place i : ℕ) (outlets : List Outlet) (outlet : Outlet) (port : Port) →
    AreOutletsTo segments root place i outlets → ((q : Port) → get_or (segment_at segments place) i q ≡ port) → IsOutlet segments root outlet →
    outlet.place ≡ place → outlet.cost ≡ port.cost → AreOutletsTo segments root place (i + 1) (outlets ++ outlet ∷ [])
outlets_yes segments root place i outlets outlet port are at is place_is cost_is = record {
  each = λ other among. elim (Contains-push_cases outlets outlet other among) [
    | inl earlier ↦ are.each other earlier
    | inr same ↦ subst (λ (o : Outlet). IsOutlet segments root o) same is
  ];
  before = λ j below p among is. outlet_kept outlets outlet j p.cost (are.before j below p among is);
  here = below_more (λ k. (p : Port) → get_or (segment_at segments place) k p ≡ p → p.vertex ≡ root → HasOutlet (outlets ++ outlet ∷ []) place p.cost) i
      (λ k below p p_at is. outlet_kept outlets outlet place p.cost (are.here k below p p_at is))
      (λ p p_at is. record {
        outlet = outlet;
        among = Contains-push outlets outlet;
        leads = place_is;
        costs = cost_is ∙ ap (λ (q : Port). q.cost) (sym (at p) ∙ p_at);
      });
}

-- one more port, which isn't
outlets_no : (segments : List (List Port)) (root place i : ℕ) (outlets : List Outlet) (port : Port) → AreOutletsTo segments root place i outlets →
    ((q : Port) → get_or (segment_at segments place) i q ≡ port) → (port.vertex ≡ root → ⊥) → AreOutletsTo segments root place (i + 1) outlets
outlets_no segments root place i outlets port are at isnt = grind (arith, common_steps)

-- what is known of those of all vertices in the middle of a segment
abbrev pub AreOutletsOnto : List (List Port) → ℕ → ℕ → List (List Outlet) → Type 0
AreOutletsOnto segments place i all = (u : ℕ) → u < length all → AreOutletsTo segments u place i (get_or all u [])

-- one more port comes to those of its vertex
pub outlets_step : (segments : List (List Port)) (place i : ℕ) (all : List (List Outlet)) (outlet : Outlet) (port : Port) →
    AreOutletsOnto segments place i all → ((q : Port) → get_or (segment_at segments place) i q ≡ port) → port.vertex < length all →
    IsOutlet segments port.vertex outlet → outlet.place ≡ place → outlet.cost ≡ port.cost →
    AreOutletsOnto segments place (i + 1) (set all port.vertex (get_or all port.vertex [] ++ outlet ∷ []))
outlets_step segments place i all outlet port are at in_all is place_is cost_is u below =
    let v : ℕ = port.vertex in
    let more : List Outlet = get_or all v [] ++ outlet ∷ [] in
    elim (cases_eq u v) [
      | inl same ↦ subst (λ (n : ℕ). AreOutletsTo segments n place (i + 1) (get_or (set all v more) n [])) (sym same)
          (subst (λ (l : List Outlet). AreOutletsTo segments v place (i + 1) l) (sym (get_or-set_same all v more [] in_all))
          (outlets_yes segments v place i (get_or all v []) outlet port (are v in_all) at is place_is cost_is))
      | inr other ↦ subst (λ (l : List Outlet). AreOutletsTo segments u place (i + 1) l) (sym (get_or-set_other all v u more [] other))
          (outlets_no segments u place i (get_or all u []) port (are u (omega (arith, below, length-set all v more))) at (λ is. other (sym is)))
    ]

-- at the end of a segment all of its ports are listed
pub outlets_end : (segments : List (List Port)) (root place i : ℕ) (outlets : List Outlet) → length (segment_at segments place) ≤ i →
    AreOutletsTo segments root place i outlets → AreOutlets segments root (place + 1) outlets
outlets_end segments root place i outlets past are = record {
  each = are.each;
  every = below_more (λ j. ListsPorts (segment_at segments j) j root outlets) place are.before
      (λ port among is. are.here among.0 (omega (arith, among.1, past)) port among.2 is);
}

-- what stands at one place is the same
same_at : (ports : List Port) (i j : ℕ) (p q : Port) → i ≡ j → i < length ports → get_or ports i p ≡ p → get_or ports j q ≡ q → p ≡ q
same_at ports i j p q same within at_p at_q = sym at_p ∙ get_or_default ports i p q within ∙ ap (λ (n : ℕ). get_or ports n q) same ∙ at_q

-- of two ports one is another vertex's
pub far_end_at : (ports : List Port) (vertex i : ℕ) (port : Port) → length ports ≤ 2 → Any (λ p. p.vertex ≡ vertex) ports → i < length ports →
    get_or ports i port ≡ port → (port.vertex ≡ vertex → ⊥) → IsFarEnd ports vertex port.vertex
far_end_at ports vertex i port few (k, own, in_ports, at_own, is_own) within at other =
    grind (arith, common_steps, cases_eq, same_at)
