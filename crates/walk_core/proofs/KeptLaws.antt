-- The least walks from a root are the same without arcs that no least walk takes.
use Rattle.std.proofs.Common.{◌≡◌, ℕ, ◌+◌, ◌<◌, ◌≤◌, ◌≢◌, List, [], ◌∷◌, ◌++◌, Option, Some, None, length, Contains, refl, sym, ap, subst, ◌∙◌, arith, inl, inr}
use Rattle.std.proofs.Common.{Bool, true, false, get_or}
use Rattle.std.specs.List.{All, slice_get}
use Rattle.std.proofs.Math.ListN.{get_or-eq_default}
use Rattle.std.proofs.lemmas.Bool.{cases_lt}
use Rattle.std.proofs.lemmas.List.{get_or_default}
use Rattle.std.proofs.lemmas.Option.{slice_get-get_or}
use Rattle.walk_core.specs.Walks.{Arcs, Leg, Walks, walk_cost, LeastWalk, LeastCost, FirstHop}
use Rattle.walk_core.specs.Reach.{Reach, AreLeastWalks, AreWalksBelow, distance_of}
use Rattle.walk_core.specs.Segments.{SendsAcross}
use Rattle.walk_core.specs.declared.segment.Port.{Port}
use Rattle.walk_core.specs.steps.Flooding.{segment_at}
use Rattle.walk_core.specs.steps.Kept.{AllUnused, StayLeast, IsDearPort, IsDearTo, IsUnused, StaysLeast, LosesDearArcs, LosesSegments}
use Rattle.walk_core.specs.steps.FirstHops.{ListFirstHops}
use Rattle.walk_core.specs.steps.Rows.{IsDistanceRow}
use Rattle.walk_core.specs.steps.SegmentWalks.{reach_at}
use Rattle.walk_core.proofs.WalkLaws.{walks_over, least_cost_at_most, least_cost_from}

-- a walk goes on over another, and costs what both cost
walk_behind : (arc : Arcs) (u m v : ℕ) (legs more : List Leg) → Walks arc u legs m → Walks arc m more v → Walks arc u (legs ++ more) v
walk_behind arc u m v [] more leads behind = subst (λ (n : ℕ). Walks arc n more v) (sym leads) behind
walk_behind arc u m v (leg ∷ legs) more leads behind = (leads.0, walk_behind arc leg.to m v legs more leads.1 behind)

cost_behind : (legs more : List Leg) → walk_cost (legs ++ more) ≡ walk_cost legs + walk_cost more
cost_behind [] more = omega arith
cost_behind (leg ∷ legs) more = omega (arith, cost_behind legs more)

-- where a walk from the root costs this up to a vertex, and no walk from the root undercuts it with what is left of it, this is
-- what is left over the other arcs
left_of_least : (arc other : Arcs) (root : ℕ) → LosesDearArcs arc other root → (a d v : ℕ) (legs : List Leg) → LeastCost arc root a d →
    Walks arc a legs v → ((others : List Leg) → Walks arc root others v → d + walk_cost legs ≤ walk_cost others) → Walks other a legs v
left_of_least arc other root loses a d v [] here leads least = leads
left_of_least arc other root loses a d v (leg ∷ legs) here leads least =
    (over, left_of_least arc other root loses leg.to (d + leg.cost) v legs next leads.1 rest)
  where
    below : (others : List Leg) → Walks arc root others leg.to → d + leg.cost ≤ walk_cost others
    below others there =
        let whole : d + walk_cost (leg ∷ legs) ≤ walk_cost (others ++ legs) =
        least (others ++ legs) (walk_behind arc root leg.to v others legs there leads.1) in
        omega (arith, whole, cost_behind others legs)

    next : LeastCost arc root leg.to (d + leg.cost)
    next = least_cost_from (d + leg.cost) (here.legs ++ leg ∷ [])
        (walk_behind arc root a leg.to here.legs (leg ∷ []) here.walk.leads (leads.0, refl))
        (omega (arith, cost_behind here.legs (leg ∷ []), here.costs)) below

    over : other a leg.to leg.cost
    over = elim (loses a leg.to leg.cost leads.0) [
      | inl kept ↦ kept
      | inr dear ↦ absurd (let less : d + leg.cost < d + leg.cost = dear d (d + leg.cost) here next in omega (arith, less))
    ]

    rest : (others : List Leg) → Walks arc root others v → d + leg.cost + walk_cost legs ≤ walk_cost others
    rest others there = omega (arith, least others there)

-- nothing costs less than staying
at_root : (arc : Arcs) (root : ℕ) → LeastCost arc root root 0
at_root arc root = record {
  legs = [];
  walk = record { leads = refl; least = λ others leads. omega arith };
  costs = refl;
}

-- a least walk from the root is one over the other arcs
least_walk_down : (arc other : Arcs) (root v : ℕ) (legs : List Leg) → ((a b cost : ℕ) → other a b cost → arc a b cost) →
    LosesDearArcs arc other root → LeastWalk arc root legs v → LeastWalk other root legs v
least_walk_down arc other root v legs within loses walk = record {
  leads = left_of_least arc other root loses root 0 v legs (at_root arc root) walk.leads
      (λ others there. omega (arith, walk.least others there));
  least = λ others leads. walk.least others (walks_over within root others v leads);
}

-- and the other way round, where it is known what the vertices cost
least_walk_up : (arc other : Arcs) (root v : ℕ) (legs : List Leg) (reach : Reach) → ((a b cost : ℕ) → other a b cost → arc a b cost) →
    LosesDearArcs arc other root → AreLeastWalks arc root reach → LeastWalk other root legs v → LeastWalk arc root legs v
least_walk_up arc other root v legs reach within loses known walk = record {
  leads = up;
  least = λ others there. by_distance (distance_of reach v) refl others there;
}
  where
    up : Walks arc root legs v
    up = walks_over within root legs v walk.leads

    by_distance : (found : Option ℕ) → distance_of reach v ≡ found → (others : List Leg) → Walks arc root others v → walk_cost legs ≤ walk_cost others
    by_distance None is others there = absurd ((known.unreached v).0 is legs up)
    by_distance (Some d) is others there =
        let cost : LeastCost arc root v d = (known.distances v d).0 is in
        let down : LeastWalk other root cost.legs v = least_walk_down arc other root v cost.legs within loses cost.walk in
        let less : walk_cost legs ≤ walk_cost cost.legs = walk.least cost.legs down.leads in
        let most : d ≤ walk_cost others = least_cost_at_most cost others there in
        omega (arith, less, most, cost.costs)

-- what is known of the least walks from the root is so of the other arcs
pub least_walks_kept : (arc other : Arcs) (root : ℕ) (reach : Reach) → ((a b cost : ℕ) → other a b cost → arc a b cost) →
    LosesDearArcs arc other root → AreLeastWalks arc root reach → AreLeastWalks other root reach
least_walks_kept arc other root reach within loses known = record {
  distances = λ v d. (
    λ is. let cost : LeastCost arc root v d = (known.distances v d).0 is in
        record { legs = cost.legs; walk = least_walk_down arc other root v cost.legs within loses cost.walk; costs = cost.costs },
    λ cost. (known.distances v d).1
        (record { legs = cost.legs; walk = least_walk_up arc other root v cost.legs reach within loses known cost.walk; costs = cost.costs }),
  );
  unreached = λ v. (
    λ is legs leads. (known.unreached v).0 is legs (walks_over within root legs v leads),
    λ none. unreached v none (distance_of reach v) refl,
  );
  hops = λ v h. (
    λ has. let hop : FirstHop arc root v h = (known.hops v h).0 has in
        record { leg = hop.leg; legs = hop.legs; walk = least_walk_down arc other root v (hop.leg ∷ hop.legs) within loses hop.walk; begins = hop.begins },
    λ hop. (known.hops v h).1
        (record {
          leg = hop.leg;
          legs = hop.legs;
          walk = least_walk_up arc other root v (hop.leg ∷ hop.legs) reach within loses known hop.walk;
          begins = hop.begins;
        }),
  );
}
  where
    unreached : (v : ℕ) → ((legs : List Leg) → Walks other root legs v → ⊥) → (found : Option ℕ) → distance_of reach v ≡ found →
        distance_of reach v ≡ None
    unreached v none None is = is
    unreached v none (Some d) is =
        let cost : LeastCost arc root v d = (known.distances v d).0 is in
        absurd (none cost.legs (least_walk_down arc other root v cost.legs within loses cost.walk).leads)

-- what holds of all holds of each
of_each : {X : Type 0} (P : X → Type 0) (xs : List X) → All P xs → (x : X) → Contains xs x → P x
of_each P xs all x among = subst P among.2 (all among.0 x among.1)

-- where segments go that are of no use to a root, it loses only arcs that are dear from it
loses_unused : (before after : List (List Port)) (lost : List ℕ) (root : ℕ) (reach : Reach) → LosesSegments before after lost → AllUnused before lost reach →
    AreLeastWalks (SendsAcross before) root reach → LosesDearArcs (SendsAcross before) (SendsAcross after) root
loses_unused before after lost root reach loses unused known a b cost arc =
    let place : ℕ = arc.over.among.0 in
    let within : place < length before = arc.over.among.1 in
    let at_place : segment_at before place ≡ arc.over.segment = get_or_default before place [] arc.over.segment within ∙ arc.over.among.2 in
    elim (loses.every place within) [
      | inl kept ↦ inl (record {
        apart = arc.apart;
        over = record {
          segment = arc.over.segment;
          among = subst (λ (s : List Port). Contains after s) at_place kept;
          over = arc.over.over;
        };
      })
      | inr gone ↦ inr (λ d e near far.
          let on = arc.over.over in
          let far_among : Contains (segment_at before place) on.far = subst (λ (s : List Port). Contains s on.far) (sym at_place) on.far_among in
          let near_among : Contains (segment_at before place) on.near = subst (λ (s : List Port). Contains s on.near) (sym at_place) on.near_among in
          let apart : on.near.vertex ≢ on.far.vertex = λ same. arc.apart (sym on.from ∙ same ∙ on.to) in
          let at_near : distance_of reach on.near.vertex ≡ Some d = ap (distance_of reach) on.from ∙ (known.distances a d).1 near in
          let at_far : distance_of reach on.far.vertex ≡ Some e = ap (distance_of reach) on.to ∙ (known.distances b e).1 far in
          let less : e < d + on.near.cost = of_each (IsDearTo reach on.near) (segment_at before place)
          (of_each (IsDearPort reach (segment_at before place)) (segment_at before place)
          (of_each (λ i. IsUnused reach (segment_at before i)) lost unused place gone) on.near near_among) on.far far_among apart d e at_near at_far in
          omega (arith, less, on.costs))
    ]

-- the walks of a root stay what they are without segments that are of no use to it
pub walks_without : (before after : List (List Port)) (lost : List ℕ) (root : ℕ) (reach : Reach) → LosesSegments before after lost →
    AllUnused before lost reach → AreLeastWalks (SendsAcross before) root reach → AreLeastWalks (SendsAcross after) root reach
walks_without before after lost root reach loses unused known =
    least_walks_kept (SendsAcross before) (SendsAcross after) root reach within (loses_unused before after lost root reach loses unused known) known
  where
    within : (a b cost : ℕ) → SendsAcross after a b cost → SendsAcross before a b cost
    within a b cost arc = record {
      apart = arc.apart;
      over = record {
        segment = arc.over.segment;
        among = loses.among arc.over.segment arc.over.among;
        over = arc.over.over;
      };
    }

-- what is known of a root that is marked
pub row_kept : (arc : Arcs) (count root : ℕ) (roots : List Bool) (walks : List Reach) (reach : Reach) → StayLeast arc count roots walks →
    get_or roots root false ≡ true → reach ≡ reach_at walks root → (row : List (Option ℕ)) → row ≡ reach.distances → IsDistanceRow arc count root row
row_kept arc count root roots walks reach kept marked is row same =
    let own : StaysLeast arc count root (reach_at walks root) = kept root marked in
    subst (λ (l : List (Option ℕ)). IsDistanceRow arc count root l) (sym (same ∙ ap (λ (r : Reach). r.distances) is)) (record {
      least = record { least = own.least.distances; none = own.least.unreached };
      within = own.within;
      near = own.near;
    })

pub hops_kept : (arc : Arcs) (count root : ℕ) (roots : List Bool) (walks : List Reach) (reach : Reach) → StayLeast arc count roots walks →
    get_or roots root false ≡ true → reach ≡ reach_at walks root → (lists : List (List ℕ)) → lists ≡ reach.hops → ListFirstHops arc root lists
hops_kept arc count root roots walks reach kept marked is lists same =
    subst (λ (l : List (List ℕ)). ListFirstHops arc root l) (sym (same ∙ ap (λ (r : Reach). r.hops) is)) (kept root marked).least.hops

-- roots are marked whose walks fit, and to which none of the segments that go is of use
pub roots_kept : (before after : List (List Port)) (lost : List ℕ) (count n : ℕ) (roots : List Bool) (walks : List Reach) →
    AreWalksBelow (SendsAcross before) count count walks → LosesSegments before after lost → length roots ≡ n → n ≤ length walks →
    ((u : ℕ) → u < n → get_or roots u false ≡ true → (length (reach_at walks u).distances ≤ count) × AllUnused before lost (reach_at walks u)) →
    StayLeast (SendsAcross after) count roots walks
roots_kept before after lost count n roots walks known loses long few each u marked = elim (cases_lt u n) [
  | inl below ↦
      let is = each u below marked in
      let at_u : slice_get walks u ≡ Some (reach_at walks u) = slice_get-get_or walks u _ (omega (arith, below, few)) in
      record {
        least = walks_without before after lost u (reach_at walks u) loses is.1 (known.least u (reach_at walks u) at_u);
        within = is.0;
        near = known.near u (reach_at walks u) at_u;
      }
  | inr past ↦
      let none : get_or roots u false ≡ false = get_or-eq_default roots false (omega (arith, past, long)) in
      absurd (let k : false ≡ true = sym none ∙ marked in cc)
]
