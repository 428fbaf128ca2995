-- A flood may begin with the distances of a neighbor over the link there.
use Rattle.std.proofs.Common.{◌≡◌, ◌≢◌, ℕ, ◌+◌, ◌^◌, ◌<◌, ◌≤◌, zero, suc, List, [], ◌∷◌, Option, Some, None, length, length-set, get_or, replicate}
use Rattle.std.proofs.Common.{◌++◌, refl, sym, ap, subst, ◌∙◌, arith, inl, inr}
use Rattle.std.proofs.lemmas.Bool.{cases_eq}
use Rattle.std.proofs.lemmas.List.{length-replicate}
use Rattle.std.proofs.lemmas.Option.{same_Some}
use Rattle.walk_core.specs.BestOffers.{total_with}
use Rattle.walk_core.specs.Distances.{distance_at}
use Rattle.walk_core.specs.Segments.{Sends, SendsAcross}
use Rattle.walk_core.specs.Walks.{Arcs, Leg, LeastCost}
use Rattle.walk_core.specs.declared.outlets.Outlet.{Outlet}
use Rattle.walk_core.specs.steps.Begun.{IsBegun, IsFarRow, IsLinkBack, IsRowBack, IsRowOver}
use Rattle.walk_core.specs.steps.Relaxing.{IsTightFrom, WalkCosts, missing}
use Rattle.walk_core.specs.steps.Rows.{AreDistanceRows, IsDistanceRow}
use Rattle.walk_core.specs.steps.SegmentWalks.{AreOutlets, IsJoined, IsOutlet, Joined}
use Rattle.walk_core.proofs.FloodLaws.{total_parts}
use Rattle.walk_core.proofs.RelaxLaws.{only_at_root, room_at_first, walk_cost_on, walked_at_first, walks_on}
use Rattle.walk_core.proofs.SegmentHopLaws.{arc_over, at_most_of_walk, far_end}
use Rattle.walk_core.proofs.WalkLaws.{walks_over}

-- the root's own distance alone
pub begun_alone : (graph : Joined) (root : ℕ) (ds : List (Option ℕ)) → root < graph.count → graph.count < 2 ^ 32 → IsJoined graph →
    IsFarRow graph.count root ds → IsBegun graph root ds
begun_alone graph root ds below few joined is = subst (λ (l : List (Option ℕ)). IsBegun graph root l) (sym is) (record {
  joined = joined;
  long = length-set (replicate graph.count None) root (Some 0) ∙ length-replicate graph.count None;
  room = room_at_first graph.count root below few;
  walked = walked_at_first (Sends graph.segments) graph.count root below;
  tight = λ u apart v c d over there. absurd (apart (only_at_root graph.count root u d below there).0);
})

missing_most : (ds : List (Option ℕ)) → missing ds ≤ length ds
missing_most [] = omega arith
missing_most (None ∷ ds) = omega (arith, missing_most ds)
missing_most (Some d ∷ ds) = omega (arith, missing_most ds)

-- one vertex isn't missing
one_there : (ds : List (Option ℕ)) (u a : ℕ) → distance_at ds u ≡ Some a → missing ds + 1 ≤ length ds
one_there [] u a is = absurd (cc)
one_there (None ∷ ds) zero a is = absurd (cc)
one_there (None ∷ ds) (suc u) a is = omega (arith, one_there ds u a is)
one_there (Some d ∷ ds) zero a is = omega (arith, missing_most ds)
one_there (Some d ∷ ds) (suc u) a is = omega (arith, one_there ds u a is)

-- nor another one
two_there : (ds : List (Option ℕ)) (u v a b : ℕ) → u ≢ v → distance_at ds u ≡ Some a → distance_at ds v ≡ Some b → missing ds + 2 ≤ length ds
two_there [] u v a b apart one other = absurd (cc)
two_there (None ∷ ds) zero v a b apart one other = absurd (cc)
two_there (None ∷ ds) (suc u) zero a b apart one other = absurd (cc)
two_there (None ∷ ds) (suc u) (suc v) a b apart one other = omega (arith, two_there ds u v a b (λ same. apart (ap suc same)) one other)
two_there (Some d ∷ ds) zero zero a b apart one other = absurd (apart refl)
two_there (Some d ∷ ds) zero (suc v) a b apart one other = omega (arith, one_there ds v b other)
two_there (Some d ∷ ds) (suc u) zero a b apart one other = omega (arith, one_there ds u a one)
two_there (Some d ∷ ds) (suc u) (suc v) a b apart one other = omega (arith, two_there ds u v a b (λ same. apart (ap suc same)) one other)

-- a vertex, its number of vertices, and a link to one before it, whose distances are known
pub record HasBack (graph : Joined) (root : ℕ) (outlets : List Outlet) (rows : List (List (Option ℕ))) (outlet : Outlet) (far : List (Option ℕ))
    : Type 0 where
  pub below : root < graph.count
  pub few : graph.count < 2 ^ 32
  pub joined : IsJoined graph
  pub listed : AreOutlets graph.segments root (length graph.segments) outlets
  pub each : AreDistanceRows (SendsAcross graph.segments) graph.count root rows
  pub link : IsLinkBack outlets root outlet
  pub row : IsRowBack rows outlet far

-- the distances of the neighbor over the link there
pub begun_over : (graph : Joined) (root : ℕ) (outlets : List Outlet) (rows : List (List (Option ℕ))) (outlet : Outlet) (far ds : List (Option ℕ)) →
    HasBack graph root outlets rows outlet far → IsRowOver far outlet.cost graph.count root ds → IsBegun graph root ds
begun_over graph root outlets rows outlet far ds has over = record {
  joined = has.joined;
  long = over.long;
  room = record {
    few = omega (arith, over.long, has.few);
    room = λ v d is. omega (arith, near v d is, two_there ds root to 0 (0 + outlet.cost) apart over.own at_end);
  };
  walked = record { start = over.own; walked = walked };
  tight = tight;
}
  where
    arc : Arcs
    arc = SendsAcross graph.segments

    to : ℕ
    to = has.link.back.to

    apart : root ≢ to
    apart same = omega (arith, same, has.link.back.below)

    row : IsDistanceRow arc graph.count to far
    row = subst (λ (l : List (Option ℕ)). IsDistanceRow arc graph.count to l)
        (sym (has.row.is ∙ ap (λ (n : ℕ). get_or rows n []) (same_Some has.row.to to (sym has.row.leads ∙ has.link.back.leads))))
        (has.each.each to has.link.back.below)

    link : SendsAcross graph.segments root to outlet.cost
    link =
        let is : IsOutlet graph.segments root outlet = has.listed.each outlet has.link.among in
        let at = (far_end graph.segments root to outlet is has.link.back.leads).port in
        subst (λ (n : ℕ). arc root n outlet.cost) at.4
        (arc_over graph.segments root outlet at.1 is (at.0, at.2, at.3) (λ same. apart (same ∙ at.4)))

    at_end : distance_at ds to ≡ Some (0 + outlet.cost)
    at_end = (over.each to (λ same. apart (sym same))).total ∙ ap (λ (o : Option ℕ). total_with o outlet.cost)
        ((row.least.least to 0).1 (record {
          legs = [];
          walk = record { leads = refl; least = λ others leads. omega arith };
          costs = refl;
        }))

    near : (v d : ℕ) → distance_at ds v ≡ Some d → d ≤ 2 ^ 32
    near v d is = elim (cases_eq v root) [
      | inl same ↦ omega (arith, same_Some 0 d (sym over.own ∙ (ap (λ (n : ℕ). distance_at ds n) (sym same) ∙ is)))
      | inr other ↦ (over.each v other).near d is
    ]

    -- behind the link it is as far as from its end
    behind : (v d : ℕ) → v ≢ root → distance_at ds v ≡ Some d → (n : ℕ) × LeastCost arc to v n × (n + outlet.cost ≡ d)
    behind v d other is =
        let parts = total_parts (distance_at far v) outlet.cost d (sym (over.each v other).total ∙ is) in
        (parts.0, (row.least.least v parts.0).0 parts.1, parts.2)

    walked : (v d : ℕ) → distance_at ds v ≡ Some d → WalkCosts (Sends graph.segments) root v d
    walked v d is = elim (cases_eq v root) [
      | inl same ↦ record {
        legs = [];
        leads = sym same;
        costs = same_Some 0 d (sym over.own ∙ (ap (λ (n : ℕ). distance_at ds n) (sym same) ∙ is));
      }
      | inr other ↦
          let rest = behind v d other is in
          record {
            legs = record { to = to; cost = outlet.cost } ∷ rest.1.legs;
            leads = (link.over, walks_over (λ a b c sends. sends.over) to rest.1.legs v rest.1.walk.leads);
            costs = omega (arith, rest.1.costs, rest.2);
          }
    ]

    tight : (u : ℕ) → u ≢ root → IsTightFrom (Sends graph.segments) u ds
    tight u away v c d sends is = elim (cases_eq v root) [
      | inl same ↦ record { value = 0; is = ap (λ (n : ℕ). distance_at ds n) same ∙ over.own; below = omega arith }
      | inr other ↦ elim (cases_eq u v) [
        | inl same ↦ record { value = d; is = ap (λ (n : ℕ). distance_at ds n) (sym same) ∙ is; below = omega arith }
        | inr moves ↦
            let rest = behind u d away is in
            let leg : Leg = record { to = v; cost = c } in
            let least = at_most_of_walk arc to v far (rest.1.legs ++ leg ∷ []) row.least
            (walks_on arc to rest.1.legs u leg rest.1.walk.leads (record { apart = moves; over = sends })) in
            record {
              value = least.value + outlet.cost;
              is = (over.each v other).total ∙ ap (λ (o : Option ℕ). total_with o outlet.cost) least.is;
              below = omega (arith, least.below, walk_cost_on rest.1.legs leg, rest.1.costs, rest.2);
            }
      ]
    ]
