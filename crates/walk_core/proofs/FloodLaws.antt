-- Relaxing all arcs of a segment at once.
use Rattle.std.proofs.lemmas.Grind.{common_steps}
use Rattle.std.proofs.Common.{◌≡◌, ℕ, ◌+◌, ◌<◌, ◌≤◌, Bool, cond, IsTrue, ◌↔◌, List, [], Option, Some, None, length, set, get_or, refl, sym}
use Rattle.std.proofs.Common.{ap, subst, ◌∙◌, arith, Contains, MatchOption, inl, inr}
use Rattle.std.proofs.lemmas.List.{get_or_default}
use Rattle.std.proofs.lemmas.List.Elements.{Contains-get_or}
use Rattle.walk_core.specs.declared.segment.Port.{Port}
use Rattle.walk_core.specs.BestOffers.{total_with}
use Rattle.walk_core.specs.steps.Cheapest.{HasCost}
use Rattle.walk_core.specs.Distances.{distance_at}
use Rattle.walk_core.specs.steps.Rows.{IsDistanceRow}
use Rattle.walk_core.specs.steps.Flooding.{cost_onto, segment_at, AreAllAtMost, IsLastAbove}
use Rattle.walk_core.specs.steps.Relaxing.{AreWalked, HaveRoom, Fall, IsAtMost, IsTightFrom, weight_of}
use Rattle.walk_core.specs.declared.outlets.Outlet.{Outlet}
use Rattle.walk_core.specs.steps.SegmentWalks.{AreOutlets, HasOutlet, IsFarEnd, IsLan, IsOutlet}
use Rattle.walk_core.specs.Segments.{SendsOn, Sends, SendsAcross, AreSegments}
use Rattle.walk_core.specs.Walks.{Arcs}
use Rattle.walk_core.proofs.LoopLaws.{AddsLoops, distances_loops}
use Rattle.walk_core.proofs.RelaxLaws.{IsRelaxed, relaxed, distances_from_tight}

-- a sum that is there has a first part
pub total_parts : (d : Option ℕ) (c total : ℕ) → total_with d c ≡ Some total → (n : ℕ) × (d ≡ Some n) × (n + c ≡ total)
total_parts None c total is = absurd (let k : None ≡ Some total = is in cc)
total_parts (Some n) c total is = (n, refl, let k : Some (n + c) ≡ Some total = is in cc)

-- the segment of a place is among the segments
pub segment_among : (segments : List (List Port)) (place : ℕ) → place < length segments → Contains segments (segment_at segments place)
segment_among segments place within = Contains-get_or segments place [] within

-- the vertex of a port that is read is one of the graph
pub vertex_below : (segments : List (List Port)) (place i n : ℕ) (given : List Port) → place < length segments → given ≡ segment_at segments place →
    i < length given → AreSegments n segments → (get_or given i (record { vertex = 0; cost = 0 })).vertex < n
vertex_below segments place i n given in_place is within are =
    let none : Port = record { vertex = 0; cost = 0 } in
    let among : Contains (segment_at segments place) (get_or given i none) =
    subst (λ (l : List Port). Contains l (get_or given i none)) is (Contains-get_or given i none within) in
    (are (segment_at segments place) (segment_among segments place in_place) (get_or given i none) among).vertex

-- nothing falls
pub falls_none : {arc : Arcs} {ds : List (Option ℕ)} → HaveRoom ds → Fall arc ds ds
falls_none room = record { room = room; walked = λ root walked. walked; lower = λ v most is. is }

-- more falls
pub falls_on : {arc : Arcs} {before now after : List (Option ℕ)} → Fall arc before now → Fall arc now after → Fall arc before after
falls_on one other = grind (arith, common_steps)

-- what one step of lowering leaves
pub record IsLowered (arc : Arcs) (ports : List Port) (now after : List (Option ℕ)) (v found : ℕ) : Type 0 where
  pub falls : Fall arc now after
  pub entry : HasCost (cost_onto after) ports found
  pub tight : IsAtMost (distance_at after v) found

pub lowered : (segments : List (List Port)) (place : ℕ) (now after : List (Option ℕ)) (port : Port) (found : ℕ) (fell : Bool) →
    place < length segments → AreSegments (length now) segments → HaveRoom now →
    HasCost (cost_onto now) (segment_at segments place) found → Contains (segment_at segments place) port →
    (IsTrue fell ↔ (found < weight_of (distance_at now port.vertex))) → after ≡ cond fell (set now port.vertex (Some found)) now →
    IsLowered (Sends segments) (segment_at segments place) now after port.vertex found
lowered segments place now after port found fell within are room entry far falls is =
    let ports : List Port = segment_at segments place in
    let near : Port = entry.thing in
    let parts = total_parts (distance_at now near.vertex) near.cost found entry.costs in
    let d : ℕ = parts.0 in
    let sum : d + near.cost ≡ found = parts.2 in
    let among = segment_among segments place within in
    let over : Sends segments near.vertex port.vertex near.cost = record {
      segment = ports;
      among = among;
      over = record { near = near; far = port; near_among = entry.among; far_among = far; from = refl; to = refl; costs = refl };
    } in
    let step : IsRelaxed (Sends segments) now after near.vertex port.vertex near.cost d fell =
    relaxed (Sends segments) now after near.vertex port.vertex near.cost d fell room over
    (are ports among near entry.among).most (are ports among port far).vertex parts.1
    (subst (λ (n : ℕ). IsTrue fell ↔ (n < weight_of (distance_at now port.vertex))) (sym sum) falls)
    (subst (λ (n : ℕ). after ≡ cond fell (set now port.vertex (Some n)) now) (sym sum) is) in
    record {
      falls = record { room = step.relaxes.room; walked = step.relaxes.walked; lower = step.lower };
      entry = record {
        thing = near;
        among = entry.among;
        costs = ap (λ (o : Option ℕ). total_with o near.cost) step.near_is ∙ ap (λ (n : ℕ). Some n) sum;
      };
      tight = subst (λ (n : ℕ). IsAtMost (distance_at after port.vertex) n) sum step.tight;
    }

-- all ports are lowered
pub all_at_most : (ds : List (Option ℕ)) (ports : List Port) (i most : ℕ) (none : Port) → length ports ≤ i →
    ((j : ℕ) → j < i → IsAtMost (distance_at ds (get_or ports j none).vertex) most) → AreAllAtMost ds ports most
all_at_most ds ports i most none past each port among =
    subst (λ (p : Port). IsAtMost (distance_at ds p.vertex) most) (get_or_default ports among.0 none port among.1 ∙ among.2)
    (each among.0 (omega (arith, among.1)))

-- what is at most this is at most more
pub at_most_more : (distance : Option ℕ) (most more : ℕ) → IsAtMost distance most → most ≤ more → IsAtMost distance more
at_most_more distance most more is less = record { value = is.value; is = is.is; below = omega (arith, is.below) }

-- the arcs of segments, with those from a vertex to itself
pub sends_loops : (segments : List (List Port)) → AddsLoops (SendsAcross segments) (Sends segments)
sends_loops segments = grind (arith, common_steps)

-- an arc of segments ends at a vertex
pub sends_below : (segments : List (List Port)) (count u v c : ℕ) → AreSegments count segments → Sends segments u v c → v < count
sends_below segments count u v c are over = subst (λ (n : ℕ). n < count) over.over.to (are over.segment over.among over.over.far over.over.far_among).vertex

-- an arc of segments is one over the segment of some place
pub sends_at_place : (segments : List (List Port)) (u v c : ℕ) → Sends segments u v c →
    (place : ℕ) × (place < length segments) × SendsOn (segment_at segments place) u v c
sends_at_place segments u v c arc = grind (arith, common_steps, get_or_default)

-- distances that are costs of walks and that no arc undercuts are a row
pub row_of_tight : (segments : List (List Port)) (count root : ℕ) (ds : List (Option ℕ)) → root < count → AreSegments count segments → length ds ≡ count →
    HaveRoom ds → AreWalked (Sends segments) root ds → ((u : ℕ) → u < count → IsTightFrom (Sends segments) u ds) →
    IsDistanceRow (SendsAcross segments) count root ds
row_of_tight segments count root ds below are long room walked tight = record {
  least = distances_loops (SendsAcross segments) (Sends segments) (sends_loops segments) root ds
      (distances_from_tight (Sends segments) count root ds below
      (λ u v cost in_range over. sends_below segments count u v cost are over) tight walked);
  within = omega (arith, long);
  near = λ v d is. let within = room.room v d is in omega (arith, within, long);
}

-- the port of an outlet is one from which its segment is entered
pub entry_of_outlet : (segments : List (List Port)) (u : ℕ) (outlet : Outlet) (ds : List (Option ℕ)) (near : ℕ) → IsOutlet segments u outlet →
    distance_at ds u ≡ Some near → HasCost (cost_onto ds) (segment_at segments outlet.place) (near + outlet.cost)
entry_of_outlet segments u outlet ds near is here = grind (arith, common_steps)

-- over a link the other end alone may be further
pub last_above : (segments : List (List Port)) (u : ℕ) (outlet : Outlet) (ds : List (Option ℕ)) (near found : ℕ) → IsOutlet segments u outlet →
    distance_at ds u ≡ Some near → near ≤ found →
    MatchOption outlet.to (IsLan (segment_at segments outlet.place)) (IsLastAbove ds (segment_at segments outlet.place) found)
last_above segments u outlet ds near found is here less = match_of outlet.to is.leads
  where
    ports : List Port
    ports = segment_at segments outlet.place

    match_of : (to : Option ℕ) → MatchOption to (IsLan ports) (IsFarEnd ports u) → MatchOption to (IsLan ports) (IsLastAbove ds ports found)
    match_of None lan = lan
    match_of (Some to) far = let at = far.port in record {
      port = at.1;
      among = (at.0, at.2, at.3);
      vertex = at.4;
      others = λ p among. elim (far.only p among) [
        | inl own ↦ inr (record { value = near; is = ap (distance_at ds) own ∙ here; below = less })
        | inr same ↦ inl same
      ];
    }

-- a vertex whose arcs were relaxed, those of one outlet after another
pub tight_over : (segments : List (List Port)) (u near i : ℕ) (outlets : List Outlet) (none : Outlet) (ds : List (Option ℕ)) → length outlets ≤ i →
    AreOutlets segments u (length segments) outlets → distance_at ds u ≡ Some near →
    ((j : ℕ) → j < i → AreAllAtMost ds (segment_at segments (get_or outlets j none).place) (near + (get_or outlets j none).cost)) →
    IsTightFrom (Sends segments) u ds
tight_over segments u near i outlets none ds past are here each v c d over is =
    let at = sends_at_place segments u v c over in
    let listed : HasOutlet outlets at.0 at.2.near.cost = are.every at.0 at.1 at.2.near at.2.near_among at.2.from in
    let outlet : Outlet = listed.outlet in
    let read : get_or outlets listed.among.0 none ≡ outlet = get_or_default outlets listed.among.0 none outlet listed.among.1 ∙ listed.among.2 in
    let all : AreAllAtMost ds (segment_at segments outlet.place) (near + outlet.cost) =
    subst (λ (o : Outlet). AreAllAtMost ds (segment_at segments o.place) (near + o.cost)) read (each listed.among.0 (omega (arith, listed.among.1, past))) in
    let on : AreAllAtMost ds (segment_at segments at.0) (near + outlet.cost) =
    subst (λ (n : ℕ). AreAllAtMost ds (segment_at segments n) (near + outlet.cost)) listed.leads all in
    let there : IsAtMost (distance_at ds v) (near + outlet.cost) =
    subst (λ (n : ℕ). IsAtMost (distance_at ds n) (near + outlet.cost)) at.2.to (on at.2.far at.2.far_among) in
    let same : Some near ≡ Some d = sym here ∙ is in
    let equal : near ≡ d = cc in
    at_most_more (distance_at ds v) (near + outlet.cost) (d + c) there (omega (arith, listed.costs, at.2.costs, equal))
