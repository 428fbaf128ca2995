-- Walks over segments, one vertex or segment after another.
use Rattle.std.proofs.lemmas.Grind.{common_steps}
use Rattle.std.proofs.Common.{◌≡◌, ℕ, ◌+◌, ◌<◌, ◌≤◌, List, [], ◌∷◌, ◌++◌, Option, Some, None, length, length-append, get_or, sym, ap, subst, arith}
use Rattle.std.proofs.lemmas.List.{get_or_append_left, get_or_push}
use Rattle.std.specs.List.Sorted.{IsStrictlyIncreasing}
use Rattle.walk_core.specs.declared.ways.Aim.{Aim}
use Rattle.walk_core.specs.declared.outlets.Outlet.{Outlet}
use Rattle.walk_core.specs.declared.segment.Port.{Port}
use Rattle.walk_core.specs.steps.Adding.{AddsNumbers}
use Rattle.walk_core.specs.steps.Flooding.{segment_at}
use Rattle.walk_core.specs.steps.Cheapest.{HasCost, IsCheapestCost}
use Rattle.walk_core.specs.Distances.{distance_at}
use Rattle.walk_core.specs.Reach.{Reach, distance_of}
use Rattle.walk_core.specs.steps.Ascending.{AreAscending}
use Rattle.walk_core.specs.steps.SegmentWalks.{beyond_port, AreEnds, IsEndAt, IsLan, AreWalksFrom, KnowsBeyond, Mesh, GoesOver, IsBehind, IsNoNearer}
use Rattle.walk_core.proofs.AddingLaws.{adds_same}
use Rattle.walk_core.proofs.ReachLaws.{ascending_more, each_at_more}

-- what is known of the walks from a segment to the vertices below n
pub record KnowsBelow (rows : List (List (Option ℕ))) (ports : List Port) (n : ℕ) (distances : List (Option ℕ)) (hops : List (List ℕ)) : Type 0 where
  pub long : length distances ≡ n
  pub many : length hops ≡ n
  pub nearest : (w : ℕ) → w < n → IsCheapestCost (beyond_port rows w) ports (distance_at distances w)
  pub lists : (w : ℕ) → w < n → AreEnds rows ports w (distance_at distances w) (get_or hops w [])
  pub ascending : AreAscending hops

pub knows_more : (rows : List (List (Option ℕ))) (ports : List Port) (n : ℕ) (distances : List (Option ℕ)) (hops : List (List ℕ)) (d : Option ℕ)
    (ends : List ℕ) →
    KnowsBelow rows ports n distances hops → IsCheapestCost (beyond_port rows n) ports d → AreEnds rows ports n d ends → IsStrictlyIncreasing ends →
    KnowsBelow rows ports (n + 1) (distances ++ d ∷ []) (hops ++ ends ∷ [])
knows_more rows ports n distances hops d ends knows best are ascending = record {
  long = omega (arith, length-append distances (d ∷ []), knows.long);
  many = omega (arith, length-append hops (ends ∷ []), knows.many);
  nearest = each_at_more None (λ w x. IsCheapestCost (beyond_port rows w) ports x) distances n d knows.long knows.nearest best;
  lists = each_at_more [] (λ w l. AreEnds rows ports w (distance_at (distances ++ d ∷ []) w) l) hops n ends knows.many
      (λ w below. subst (λ (x : Option ℕ). AreEnds rows ports w x (get_or hops w []))
      (sym (get_or_append_left distances (d ∷ []) None w (omega (arith, below, knows.long)))) (knows.lists w below))
      (subst (λ (x : Option ℕ). AreEnds rows ports n x ends) (sym (get_or_push distances d None n knows.long)) are);
  ascending = ascending_more hops ends knows.ascending ascending;
}

-- the walks from one more segment
pub knows_segment : (mesh : Mesh) (n : ℕ) (reach : Reach) → KnowsBeyond mesh n →
    (IsLan (segment_at mesh.segments n) → AreWalksFrom mesh.rows (segment_at mesh.segments n) mesh.count reach) →
    KnowsBeyond (record { count = mesh.count; segments = mesh.segments; rows = mesh.rows; beyond = mesh.beyond ++ reach ∷ [] }) (n + 1)
knows_segment mesh n reach knows from = record {
  long = omega (arith, length-append mesh.beyond (reach ∷ []), knows.long);
  each = each_at_more (record { distances = []; hops = [] })
      (λ i r. IsLan (segment_at mesh.segments i) → AreWalksFrom mesh.rows (segment_at mesh.segments i) mesh.count r) mesh.beyond n reach knows.long
      knows.each from;
}

-- one thing alone is left behind a cost
pub same_rest : (aim : Aim) (cost : ℕ) (one other : Aim) → IsBehind aim cost one → IsBehind aim cost other → one ≡ other
same_rest aim cost one other is too = grind (arith, common_steps)

-- a vertex of a segment that is as far as this, where none is nearer, is as far as the nearest
pub end_is_nearest : (mesh : Mesh) (place : ℕ) (rest : Aim) (reach : Reach) → AreWalksFrom mesh.rows (segment_at mesh.segments place) mesh.count reach →
    rest.vertex < mesh.count → IsNoNearer mesh (record { place = place; cost = 0; to = None }) rest →
    (h : ℕ) → IsEndAt mesh.rows (segment_at mesh.segments place) rest h → distance_of reach rest.vertex ≡ Some rest.distance
end_is_nearest mesh place rest reach from below near h end = go (distance_of reach rest.vertex) (from.distances rest.vertex below)
  where
    ports : List Port
    ports = segment_at mesh.segments place

    here : HasCost (beyond_port mesh.rows rest.vertex) ports rest.distance
    here = record { thing = end.thing; among = end.among; costs = end.leads.far }

    go : (nearest : Option ℕ) → IsCheapestCost (beyond_port mesh.rows rest.vertex) ports nearest → nearest ≡ Some rest.distance
    go None none = absurd (none rest.distance here)
    go (Some m) best =
        let less : m ≤ rest.distance = best.least rest.distance here in
        let more : rest.distance ≤ 0 + m = near best.attained.thing m best.attained.among best.attained.costs in
        ap (λ (n : ℕ). Some n) (omega (arith, less, more))

-- the ends behind the cost of an outlet are those that it goes over to
pub adds_over : (mesh : Mesh) (aim : Aim) (outlet : Outlet) (rest : Aim) (old new : List ℕ) → IsBehind aim outlet.cost rest →
    AddsNumbers (IsEndAt mesh.rows (segment_at mesh.segments outlet.place) rest) old new → AddsNumbers (GoesOver mesh aim outlet) old new
adds_over mesh aim outlet rest old new behind =
    let P : Aim → ℕ → Type 0 = λ a. IsEndAt mesh.rows (segment_at mesh.segments outlet.place) a in
    adds_same (P rest) (GoesOver mesh aim outlet) old new (λ h end. record { rest = rest; behind = behind; end = end })
    (λ h goes. subst (λ (a : Aim). P a h) (same_rest aim outlet.cost goes.rest rest goes.behind behind) goes.end)
