-- First hops from a root of links are those to which its exits lead.
use Rattle.std.proofs.lemmas.Grind.{common_steps}
use Rattle.std.proofs.Common.{◌≡◌, ℕ, ◌+◌, ◌<◌, ◌↔◌, ◌⊎◌, List, [], ◌∷◌, ◌++◌, Option, Some, None, Contains, MatchOption, get_or, refl, sym, ap, subst}
use Rattle.std.proofs.Common.{◌∙◌, inl, inr, arith}
use Rattle.std.proofs.lemmas.Option.{none-some, same_Some}
use Rattle.std.proofs.lemmas.List.{get_or_default}
use Rattle.std.proofs.lemmas.List.Elements.{Contains-append_left, Contains-get_or, Contains-push, Contains-push_cases}
use borrow.Author.Count.{below_more}
use Rattle.std.specs.List.Sorted.{IsStrictlyIncreasing}
use Rattle.walk_core.specs.Distances.{distance_at}
use Rattle.walk_core.specs.steps.Rows.{distance_between}
use Rattle.walk_core.specs.Segments.{SendsAcross}
use Rattle.walk_core.specs.Walks.{FirstHop, walk_cost, Arcs, LeastCost}
use Rattle.walk_core.specs.declared.ways.Aim.{Aim}
use Rattle.walk_core.specs.declared.exits.Exit.{Exit}
use Rattle.walk_core.specs.declared.exits.TwoExits.{TwoExits}
use Rattle.walk_core.specs.declared.outlets.Outlet.{Outlet}
use Rattle.walk_core.specs.declared.segment.Port.{Port}
use Rattle.walk_core.specs.steps.Exits.{AddsHops, AreExits, FitsOver, HasExit, HasTwoExits, IsExit, IsNoFarther, IsOverOne}
use Rattle.walk_core.specs.steps.Exits.{LeadsOut, LeadsOver, OneLeadsAsFar, cost_over, list_of_two}
use Rattle.walk_core.specs.steps.Flooding.{segment_at}
use Rattle.walk_core.specs.steps.SegmentWalks.{GoesOut, GoesOver, IsBehind, IsEndAt, IsLan, IsLinkEnd, IsMesh, Mesh, AreOutlets, IsOutlet}
use Rattle.walk_core.proofs.SegmentHopLaws.{IsWanted, ends_alone, hop_from_outlet, outlet_from_hop}
use Rattle.walk_core.proofs.WalkLaws.{first_hop_has_least_cost}
use Rattle.walk_core.specs.BestOffers.{total_with}
use Rattle.walk_core.specs.steps.Relaxing.{IsAtMost}
use Rattle.walk_core.proofs.FloodLaws.{total_parts}
use Rattle.walk_core.proofs.SegmentHopLaws.{far_end, over_outlet, some_hop, no_hop_home, cost_from}
use Rattle.std.proofs.Common.{◌^◌, ◌≢◌, ◌≤◌, length}
use Rattle.std.proofs.lemmas.Bool.{cases_lt}
use Rattle.std.proofs.Math.ListN.{get_or-eq_default}

-- an exit costs this, and leads to h
abbrev LeadsAt : Exit → ℕ → ℕ → ℕ → Type 0
LeadsAt exit v d h = (cost_over exit v ≡ Some d) × (exit.to ≡ h)

-- so it does where one goes over its port
over_exit : (mesh : Mesh) (root : ℕ) (outlets : List Outlet) (aim : Aim) (outlet : Outlet) (exit : Exit) (h : ℕ) → IsWanted mesh root outlets aim →
    Contains outlets outlet → IsExit mesh.rows outlet exit → LeadsAt exit aim.vertex aim.distance h ↔ GoesOver mesh aim outlet h
over_exit mesh root outlets aim outlet exit h wanted among is = (
  λ leads.
      let parts = total_parts (distance_at exit.row.now aim.vertex) exit.cost aim.distance leads.0 in
      let rest : Aim = record { vertex = aim.vertex; distance = parts.0 } in
      let behind : IsBehind aim outlet.cost rest = record { vertex = refl; sum = omega (arith, parts.2, is.costs) } in
      let far : distance_between mesh.rows exit.to aim.vertex ≡ Some parts.0 =
      subst (λ (l : List (Option ℕ)). distance_at l aim.vertex ≡ Some parts.0) is.row parts.1 in
      record { rest = rest; behind = behind; end = (alone rest behind).1 (record { far = far; is = leads.1 }) },
  λ over.
      let end : IsLinkEnd mesh.rows over.rest exit.to h = (alone over.rest over.behind).0 over.end in
      let far : distance_at exit.row.now aim.vertex ≡ Some over.rest.distance =
      subst (λ (l : List (Option ℕ)). distance_at l aim.vertex ≡ Some over.rest.distance) (sym is.row)
      (subst (λ (v : ℕ). distance_between mesh.rows exit.to v ≡ Some over.rest.distance) over.behind.vertex end.far) in
      let sum : over.rest.distance + exit.cost ≡ aim.distance = omega (arith, over.behind.sum, is.costs) in
      (ap (λ (o : Option ℕ). total_with o exit.cost) far ∙ ap (λ (n : ℕ). Some n) sum, end.is),
)
  where
    ports : List Port
    ports = segment_at mesh.segments outlet.place

    alone : (rest : Aim) → IsBehind aim outlet.cost rest → IsEndAt mesh.rows ports rest h ↔ IsLinkEnd mesh.rows rest exit.to h
    alone rest behind =
        subst (λ (o : Option ℕ). MatchOption o (IsLan ports)
        (λ t. (r : Aim) (k : ℕ) → IsBehind aim outlet.cost r → IsEndAt mesh.rows ports r k ↔ IsLinkEnd mesh.rows r t k))
        is.leads (ends_alone mesh root outlets aim outlet wanted among) rest h behind

-- the root is no farther than what it costs over an exit
at_most_over : (mesh : Mesh) (root v c : ℕ) (outlets : List Outlet) (exit : Exit) → IsMesh mesh → root < mesh.count →
    AreOutlets mesh.segments root (length mesh.segments) outlets → HasExit mesh.rows outlets exit → cost_over exit v ≡ Some c →
    IsAtMost (distance_between mesh.rows root v) c
at_most_over mesh root v c outlets exit is below listed has costs =
    let parts = total_parts (distance_at exit.row.now v) exit.cost c costs in
    let out : IsOutlet mesh.segments root has.outlet = listed.each has.outlet has.among in
    let at = (far_end mesh.segments root exit.to has.outlet out has.is.leads).port in
    let far : distance_between mesh.rows at.1.vertex v ≡ Some parts.0 =
    subst (λ (n : ℕ). distance_between mesh.rows n v ≡ Some parts.0) (sym at.4)
    (subst (λ (l : List (Option ℕ)). distance_at l v ≡ Some parts.0) has.is.row parts.1) in
    let most = over_outlet mesh root v parts.0 has.outlet at.1 is below out (at.0, at.2, at.3) far in
    record { value = most.value; is = most.is; below = omega (arith, most.below, parts.2, has.is.costs) }

-- the exits lead to the first hops
pub exits_lead : (mesh : Mesh) (v h : ℕ) (exits : TwoExits) → IsMesh mesh → exits.root < mesh.count → HasTwoExits mesh exits →
    LeadsOut exits v h ↔ FirstHop (SendsAcross mesh.segments) exits.root v h
exits_lead mesh v h exits is below has = (
  λ out. elim out.over [
    | inl first ↦ leads exits.one exits.other has.are.one over out.apart first
    | inr second ↦ leads exits.other exits.one has.are.other
        (λ d n away hop. elim (over d n away hop) [ inl at_one ↦ inr at_one | inr at_other ↦ inl at_other ]) out.apart second
  ],
  λ hop.
      let cost : ℕ = walk_cost (hop.leg ∷ hop.legs) in
      let away : distance_between mesh.rows root v ≡ Some cost = ((is.rows.each root below).least.least v cost).1 (first_hop_has_least_cost hop) in
      record {
        apart = λ home. no_hop_home mesh root v h is home hop;
        over = elim (over cost h away hop) [
          | inl first ↦ inl (record { value = cost; is = first.0; least = none_less cost away exits.other has.are.other }, first.1)
          | inr second ↦ inr (record { value = cost; is = second.0; least = none_less cost away exits.one has.are.one }, second.1)
        ];
      },
)
  where
    root : ℕ
    root = exits.root

    arc : Arcs
    arc = SendsAcross mesh.segments

    wanted : (d : ℕ) → distance_between mesh.rows root v ≡ Some d → IsWanted mesh root has.outlets (record { vertex = v; distance = d })
    wanted d away = record { mesh_is = is; root_is = below; outlets_are = has.listed; away = away }

    over : (d n : ℕ) → distance_between mesh.rows root v ≡ Some d → FirstHop arc root v n → LeadsAt exits.one v d n ⊎ LeadsAt exits.other v d n
    over d n away hop =
        let aim : Aim = record { vertex = v; distance = d } in
        let goes : GoesOut mesh has.outlets aim n = outlet_from_hop mesh root has.outlets aim n (wanted d away) hop in
        elim (has.are.every goes.thing goes.among) [
          | inl first ↦ inl ((over_exit mesh root has.outlets aim goes.thing exits.one n (wanted d away) goes.among first).1 goes.leads)
          | inr second ↦ inr ((over_exit mesh root has.outlets aim goes.thing exits.other n (wanted d away) goes.among second).1 goes.leads)
        ]

    leads : (exit other : Exit) → HasExit mesh.rows has.outlets exit →
        ((d n : ℕ) → distance_between mesh.rows root v ≡ Some d → FirstHop arc root v n → LeadsAt exit v d n ⊎ LeadsAt other v d n) →
        v ≢ exits.root → LeadsOver exit other v h → FirstHop arc root v h
    leads exit other one either apart to_end =
        let near : IsNoFarther (cost_over exit v) (cost_over other v) = to_end.0 in
        let most = at_most_over mesh root v near.value has.outlets exit is below has.listed one near.is in
        let least : LeastCost arc root v most.value = cost_from mesh root v most.value is below most.is in
        let first = some_hop arc root v least.legs (λ same. apart (sym same)) least.walk in
        let same : near.value ≡ most.value = elim (either most.value first.0 most.is first.1) [
          | inl here ↦ same_Some near.value most.value (sym near.is ∙ here.0)
          | inr there ↦ omega (arith, most.below, near.least most.value there.0)
        ] in
        let aim : Aim = record { vertex = v; distance = most.value } in
        hop_from_outlet mesh root has.outlets aim h (wanted most.value most.is) (record {
          thing = one.outlet;
          among = one.among;
          leads = (over_exit mesh root has.outlets aim one.outlet exit h (wanted most.value most.is) one.among one.is).0
              (near.is ∙ ap (λ (n : ℕ). Some n) same, to_end.1);
        })

    none_less : (d : ℕ) → distance_between mesh.rows root v ≡ Some d → (exit : Exit) → HasExit mesh.rows has.outlets exit → (c : ℕ) →
        cost_over exit v ≡ Some c → d ≤ c
    none_less d away exit one c costs =
        let most = at_most_over mesh root v c has.outlets exit is below has.listed one costs in
        omega (arith, most.below, same_Some most.value d (sym most.is ∙ away))

-- one more arc leads from what is known of an exit's end to a cost of 64 bits
pub exit_fits : (mesh : Mesh) (outlets : List Outlet) (exit : Exit) → IsMesh mesh → mesh.count < 2 ^ 32 → HasExit mesh.rows outlets exit → FitsOver exit
exit_fits mesh outlets exit is few has v d far = grind (arith, common_steps, cases_lt, get_or-eq_default)

-- where the exits are over all ports of the root, those that lead as far as v is lead to the first hops
pub ends_are_hops : (mesh : Mesh) (root v h : ℕ) (outlets : List Outlet) (exits : List Exit) → IsMesh mesh → root < mesh.count →
    AreOutlets mesh.segments root (length mesh.segments) outlets → AreExits mesh.rows outlets exits →
    OneLeadsAsFar exits v (distance_between mesh.rows root v) h ↔ FirstHop (SendsAcross mesh.segments) root v h
ends_are_hops mesh root v h outlets exits is below listed are = (
  λ one.
      let as_far = one.leads.0 in
      let aim : Aim = record { vertex = v; distance = as_far.value } in
      let has : HasExit mesh.rows outlets one.thing = are.each one.thing one.among in
      hop_from_outlet mesh root outlets aim h (wanted as_far.value as_far.is) (record {
        thing = has.outlet;
        among = has.among;
        leads = (over_exit mesh root outlets aim has.outlet one.thing h (wanted as_far.value as_far.is) has.among has.is).0
            (as_far.total, one.leads.1);
      }),
  λ hop.
      let cost : ℕ = walk_cost (hop.leg ∷ hop.legs) in
      let away : distance_between mesh.rows root v ≡ Some cost = ((is.rows.each root below).least.least v cost).1 (first_hop_has_least_cost hop) in
      let aim : Aim = record { vertex = v; distance = cost } in
      let goes : GoesOut mesh outlets aim h = outlet_from_hop mesh root outlets aim h (wanted cost away) hop in
      let over : IsOverOne mesh.rows exits goes.thing = are.every goes.thing goes.among in
      let leads = (over_exit mesh root outlets aim goes.thing over.exit h (wanted cost away) goes.among over.is).1 goes.leads in
      record { thing = over.exit; among = over.among; leads = (record { value = cost; is = away; total = leads.0 }, leads.1) },
)
  where
    wanted : (d : ℕ) → distance_between mesh.rows root v ≡ Some d → IsWanted mesh root outlets (record { vertex = v; distance = d })
    wanted d away = record { mesh_is = is; root_is = below; outlets_are = listed; away = away }

-- the exits are over ports of these, the first i of which each have one
pub record AreExitsBefore (rows : List (List (Option ℕ))) (outlets : List Outlet) (i : ℕ) (exits : List Exit) : Type 0 where
  pub each : (exit : Exit) → Contains exits exit → HasExit rows outlets exit
  pub every : (j : ℕ) → j < i → IsOverOne rows exits (get_or outlets j (record { place = 0; cost = 0; to = None }))

-- one more
pub exits_more : (rows : List (List (Option ℕ))) (outlets : List Outlet) (i : ℕ) (exits : List Exit) (exit : Exit) → i < length outlets →
    IsExit rows (get_or outlets i (record { place = 0; cost = 0; to = None })) exit → AreExitsBefore rows outlets i exits →
    AreExitsBefore rows outlets (i + 1) (exits ++ exit ∷ [])
exits_more rows outlets i exits exit within is before = record {
  each = λ e among. elim (Contains-push_cases exits exit e among) [
    | inl earlier ↦ before.each e earlier
    | inr same ↦ subst (λ (x : Exit). HasExit rows outlets x) same
        (record { outlet = get_or outlets i none; among = Contains-get_or outlets i none within; is = is })
  ];
  every = below_more (λ j. IsOverOne rows (exits ++ exit ∷ []) (get_or outlets j none)) i
      (λ j less. let one = before.every j less in
      record { exit = one.exit; among = Contains-append_left exits (exit ∷ []) one.exit one.among; is = one.is })
      (record { exit = exit; among = Contains-push exits exit; is = is });
}
  where
    none : Outlet
    none = record { place = 0; cost = 0; to = None }

-- all of them
pub exits_all : (rows : List (List (Option ℕ))) (outlets : List Outlet) (i : ℕ) (exits : List Exit) → length outlets ≤ i →
    AreExitsBefore rows outlets i exits → AreExits rows outlets exits
exits_all rows outlets i exits past before = record {
  each = before.each;
  every = λ outlet among. subst (λ (o : Outlet). IsOverOne rows exits o)
      (get_or_default outlets among.0 (record { place = 0; cost = 0; to = None }) outlet among.1 ∙ among.2)
      (before.every among.0 (omega (arith, among.1)));
}

-- The list of two numbers

in_one : (a h : ℕ) → Contains (a ∷ []) h ↔ (Some a ≡ Some h)
in_one a h = grind (arith, common_steps, Contains-push, Contains-push_cases, same_Some)

in_two : (one other : Option ℕ) (h : ℕ) → Contains (list_of_two one other) h ↔ ((one ≡ Some h) ⊎ (other ≡ Some h))
in_two None None h =
    (λ has. absurd (omega (arith, has.1)), λ either. absurd (elim either [ inl nothing ↦ none-some h nothing | inr nothing ↦ none-some h nothing ]))
in_two None (Some b) h = (λ has. inr ((in_one b h).0 has), λ either. elim either [ inl nothing ↦ absurd (none-some h nothing) | inr is ↦ (in_one b h).1 is ])
in_two (Some a) None h = (λ has. inl ((in_one a h).0 has), λ either. elim either [ inl is ↦ (in_one a h).1 is | inr nothing ↦ absurd (none-some h nothing) ])
in_two (Some a) (Some b) h = (
  λ has. elim (Contains-push_cases (a ∷ []) b h has) [ inl first ↦ inl ((in_one a h).0 first) | inr same ↦ inr (ap (λ (n : ℕ). Some n) same) ],
  λ either. elim either [
    | inl is ↦ Contains-append_left (a ∷ []) (b ∷ []) h ((in_one a h).1 is)
    | inr is ↦ subst (λ (n : ℕ). Contains (a ∷ b ∷ []) n) (same_Some b h is) (Contains-push (a ∷ []) b)
  ],
)

two_ascend : (one other : Option ℕ) → ((a b : ℕ) → one ≡ Some a → other ≡ Some b → a < b) → IsStrictlyIncreasing (list_of_two one other)
two_ascend None None less = λ k short. absurd (omega (arith, short))
two_ascend None (Some b) less = λ k short. absurd (omega (arith, short))
two_ascend (Some a) None less = λ k short. absurd (omega (arith, short))
two_ascend (Some a) (Some b) less = λ k short.
    let first : k ≡ 0 = omega (arith, short) in
    subst (λ (i : ℕ). get_or (a ∷ b ∷ []) i 0 < get_or (a ∷ b ∷ []) (i + 1) 0) (sym first) (less a b refl refl)

-- the list of the ends to which the exits lead comes
pub two_added : (exits : TwoExits) (v : ℕ) (one other : Option ℕ) (old new : List (List ℕ)) → v ≢ exits.root →
    ((h : ℕ) → (one ≡ Some h) ↔ LeadsOver exits.one exits.other v h) → ((h : ℕ) → (other ≡ Some h) ↔ LeadsOver exits.other exits.one v h) →
    new ≡ old ++ list_of_two one other ∷ [] → AddsHops exits v old new
two_added exits v one other old new apart first second added = record {
  list = list_of_two one other;
  added = added;
  exact = λ h. (
    λ has. record { apart = apart; over = elim ((in_two one other h).0 has) [ inl is ↦ inl ((first h).0 is) | inr is ↦ inr ((second h).0 is) ] },
    λ out. (in_two one other h).1 (elim out.over [ inl leads ↦ inl ((first h).1 leads) | inr leads ↦ inr ((second h).1 leads) ]),
  );
  ascending = λ less. two_ascend one other (λ a b is too. omega (arith, less, ((first a).0 is).1, ((second b).0 too).1));
}

-- towards the root it is empty
pub none_added : (exits : TwoExits) (v : ℕ) (old new : List (List ℕ)) → v ≡ exits.root → new ≡ old ++ [] ∷ [] → AddsHops exits v old new
none_added exits v old new home added = grind (arith, common_steps)
