-- Over segments: the members, their graph, and the walks from every vertex by it.
use Rattle.std.proofs.Common.{◌≡◌, ℕ, ◌+◌, ◌<◌, ◌≤◌, List, [], ◌∷◌, ◌++◌, Contains, Bool, Option, None, length, length-append, map, replicate, get_or}
use Rattle.std.proofs.Common.{arith, inl, inr, sym, ◌∙◌, subst, ap}
use Rattle.std.specs.List.Sorted.{IsStrictlyIncreasing}
use Rattle.std.proofs.lemmas.List.{get_or_default, get_or-append-add, length-replicate}
use Rattle.walk_core.specs.Reach.{Reach, AreWalksBelow}
use Rattle.walk_core.specs.Stretches.{ReachFrom, reach_along}
use Rattle.walk_core.specs.Segments.{AreSegments, IsPort, SendsAcross, SendsOn}
use Rattle.walk_core.specs.Walks.{Arcs}
use Rattle.walk_core.specs.declared.segment.Port.{Port}
use Rattle.walk_core.specs.steps.Ascending.{AreAscending}
use Rattle.walk_core.specs.steps.Flooding.{segment_at}
use Rattle.walk_core.specs.steps.FirstHops.{AreAllHops, ListFirstHops}
use Rattle.walk_core.specs.steps.Members.{AreMarked, AreMemberLists, AreMembers, AreMemberWalks, PlacesFit, HaveMarked}
use Rattle.walk_core.specs.steps.Members.{IsSpread, IsSpreadReach, MemberWalks}
use Rattle.walk_core.specs.steps.Members.{far, lone, Numbering, member_at, members_at, place_in, placed, placed_port}
use Rattle.walk_core.specs.steps.Members.{placed_ports}
use Rattle.walk_core.specs.steps.Rows.{IsDistanceRow}
use Rattle.walk_core.proofs.FloodLaws.{sends_below}
use Rattle.walk_core.proofs.MemberLaws.{IsPlacing, Renumbers, contains_map, contains_map_back, ascending_spread, hops_spread}
use Rattle.walk_core.proofs.MemberLaws.{row_spread}
use Rattle.walk_core.proofs.ReachLaws.{walks_more}
use Rattle.walk_core.proofs.RowLaws.{alone_more}
use Rattle.walk_core.proofs.WalkLaws.{first_hop_is_arc}

-- the vertex of a member's place is the member
member_back : (m : Numbering) → PlacesFit m → (v : ℕ) → place_in m v < length m.vertices →
    member_at m.vertices (place_in m v) ≡ v
member_back m are v below = elim (are.others v) [
  | inl is ↦ is.back
  | inr none ↦ absurd (omega (arith, none, below, are.few, are.end))
]

pub placing_of : (m : Numbering) → PlacesFit m → IsPlacing (length m.vertices) (place_in m) (member_at m.vertices)
placing_of m are = record { places = are.places; members = member_back m are }

-- where each marked vertex is a member, and the vertices of all ports are marked, these are members
pub members_of_marks : (segments : List (List Port)) (marks : List Bool) (m : Numbering) → AreSegments m.count segments →
    AreMarked segments (length segments) marks → PlacesFit m → HaveMarked marks m.count m → AreMembers segments m
members_of_marks segments marks m fit marked numbered have = record {
  fit = fit;
  numbered = numbered;
  ports = λ segment among port at.
      let here : segment_at segments among.0 ≡ segment = get_or_default segments among.0 [] segment among.1 ∙ among.2 in
      let on : Contains (segment_at segments among.0) port = subst (λ (s : List Port). Contains s port) (sym here) at in
      have port.vertex (fit segment among port at).vertex (marked among.0 among.1 port on);
}

-- the segments of places are of as many vertices as there are members
pub placed_fit : (segments : List (List Port)) (m : Numbering) → AreMembers segments m →
    AreSegments (length m.vertices) (placed m segments)
placed_fit segments m are segment among port at =
    let old = contains_map_back (placed_ports m) [] segments segment among in
    let one : Port = record { vertex = 0; cost = 0 } in
    let on : Contains (placed_ports m old.0) port = subst (λ (s : List Port). Contains s port) (sym old.2) at in
    let near = contains_map_back (placed_port m) one old.0 port on in
    let is : IsPort m.count near.0 = are.fit old.0 old.1 near.0 near.1 in
    subst (IsPort (length m.vertices)) near.2
    (record { vertex = are.ports old.0 old.1 near.0 near.1; cost = is.cost; most = is.most })

-- a port of a segment of places is that of a member
record IsPlaced (m : Numbering) (ports : List Port) (place cost : ℕ) : Type 0 where
  port : Port
  among : Contains ports port
  costs : port.cost ≡ cost
  within : place < length m.vertices
  is : port.vertex ≡ member_at m.vertices place

port_back : (segments : List (List Port)) (m : Numbering) → AreMembers segments m → (ports : List Port) →
    Contains segments ports →
    (port : Port) → Contains (placed_ports m ports) port → IsPlaced m ports port.vertex port.cost
port_back segments m are ports among port at =
    let one : Port = record { vertex = 0; cost = 0 } in
    let old = contains_map_back (placed_port m) one ports port at in
    let below : place_in m old.0.vertex < length m.vertices = are.ports ports among old.0 old.1 in
    let vertex : place_in m old.0.vertex ≡ port.vertex = ap (λ (p : Port). p.vertex) old.2 in
    record {
      port = old.0;
      among = old.1;
      costs = ap (λ (p : Port). p.cost) old.2;
      within = subst (λ (n : ℕ). n < length m.vertices) vertex below;
      is = sym (member_back m are.numbered old.0.vertex below) ∙ ap (member_at m.vertices) vertex;
    }

-- the arcs of the segments are those of the places
pub members_renumber : (segments : List (List Port)) (m : Numbering) → AreMembers segments m →
    Renumbers (SendsAcross segments) (SendsAcross (placed m segments)) (length m.vertices) (place_in m) (member_at m.vertices)
members_renumber segments m are = record { there = there; back = back; placing = placing_of m are.numbered }
  where
    n : ℕ
    n = length m.vertices

    there : (u v c : ℕ) → SendsAcross segments u v c →
        (place_in m u < n) × (place_in m v < n) × SendsAcross (placed m segments) (place_in m u) (place_in m v) c
    there u v c arc =
        let ports : List Port = arc.over.segment in
        let on : SendsOn ports u v c = arc.over.over in
        let near : place_in m u < n = subst (λ (w : ℕ). place_in m w < n) on.from
        (are.ports ports arc.over.among on.near on.near_among) in
        let reached : place_in m v < n = subst (λ (w : ℕ). place_in m w < n) on.to
        (are.ports ports arc.over.among on.far on.far_among) in (
          near,
          reached,
          record {
            apart = λ same. arc.apart
                (sym (member_back m are.numbered u near) ∙ ap (member_at m.vertices) same ∙ member_back m are.numbered v reached);
            over = record {
              segment = placed_ports m ports;
              among = contains_map (placed_ports m) segments ports arc.over.among;
              over = record {
                near = placed_port m on.near;
                far = placed_port m on.far;
                near_among = contains_map (placed_port m) ports on.near on.near_among;
                far_among = contains_map (placed_port m) ports on.far on.far_among;
                from = ap (place_in m) on.from;
                to = ap (place_in m) on.to;
                costs = on.costs;
              };
            };
          },
        )

    back : (p q c : ℕ) → SendsAcross (placed m segments) p q c →
        (p < n) × (q < n) × SendsAcross segments (member_at m.vertices p) (member_at m.vertices q) c
    back p q c arc =
        let on : SendsOn arc.over.segment p q c = arc.over.over in
        let old = contains_map_back (placed_ports m) [] segments arc.over.segment arc.over.among in
        let near : IsPlaced m old.0 on.near.vertex on.near.cost = port_back segments m are old.0 old.1 on.near
        (subst (λ (s : List Port). Contains s on.near) (sym old.2) on.near_among) in
        let end : IsPlaced m old.0 on.far.vertex on.far.cost = port_back segments m are old.0 old.1 on.far
        (subst (λ (s : List Port). Contains s on.far) (sym old.2) on.far_among) in
        let first : p < n = subst (λ (w : ℕ). w < n) on.from near.within in
        let last : q < n = subst (λ (w : ℕ). w < n) on.to end.within in (
          first,
          last,
          record {
            apart = λ same. arc.apart (sym (are.numbered.places p first) ∙ ap (place_in m) same ∙ are.numbered.places q last);
            over = record {
              segment = old.0;
              among = old.1;
              over = record {
                near = near.port;
                far = end.port;
                near_among = near.among;
                far_among = end.among;
                from = near.is ∙ ap (member_at m.vertices) on.from;
                to = end.is ∙ ap (member_at m.vertices) on.to;
                costs = near.costs ∙ on.costs;
              };
            };
          },
        )

-- first hops over segments of so many vertices are among these
pub member_lists : (segments : List (List Port)) (n : ℕ) (lists : List (List (List ℕ))) → AreSegments n segments →
    AreAllHops (SendsAcross segments) n lists →
    AreMemberLists n lists
member_lists segments n lists fit are = record {
  long = are.long;
  below = λ p inside v h has.
      let arc = first_hop_is_arc ((are.exact p inside v h).0 has) in
      sends_below segments n p h arc.0 fit arc.1.over;
  ascending = are.ascending;
}

-- the lists that stand at the vertices of places ascend
pub ascending_from : (m : Numbering) (lists : List (List (List ℕ))) (p : ℕ) (vertices : List ℕ) (part whole : List (List ℕ)) →
    PlacesFit m →
    AreMemberLists (length m.vertices) lists → p < length m.vertices → part ≡ get_or lists p [] → vertices ≡ m.vertices →
    IsSpread [] vertices (length vertices) (map (members_at vertices) part) whole → AreAscending whole
ascending_from m lists p vertices part whole numbered are below is same spread =
    let at : IsSpread [] m.vertices (length m.vertices) (map (members_at m.vertices) (get_or lists p [])) whole =
    subst (λ (l : List (List ℕ)). IsSpread [] m.vertices (length m.vertices) (map (members_at m.vertices) l) whole) is
    (subst (λ (l : List ℕ). IsSpread [] l (length l) (map (members_at l) part) whole) same spread) in
    ascending_spread (place_in m) m.vertices m.end (get_or lists p []) whole (placing_of m numbered) numbered.vertices
    (are.below p below)
    (are.ascending p below) at

-- they ascend without those in front of them
pub ascending_behind : (lists : List (List ℕ)) (n : ℕ) → AreAscending (replicate n [] ++ lists) → AreAscending lists
ascending_behind lists n are v =
    subst IsStrictlyIncreasing (get_or-append-add (replicate n []) lists v []) (are (length (replicate n []) + v))

-- what stands at these vertices stands at those that they are
spread_as : {X : Type 0} (none : X) (vertices others : List ℕ) (part same whole : List X) → vertices ≡ others → part ≡ same →
    IsSpread none vertices (length vertices) part whole → IsSpread none others (length others) same whole
spread_as {X} none vertices others part same whole are is spread =
    subst (λ (l : List ℕ). IsSpread none l (length l) same whole) are
    (subst (λ (l : List X). IsSpread none vertices (length vertices) l whole) is spread)

-- what is known along the members, of the walks from one of them
pub spread_along : (m : Numbering) (walks : MemberWalks) (root : ℕ) (vertices : List ℕ) (row : List (Option ℕ))
    (lists : List (List ℕ)) (along : ReachFrom) (reach : Reach) → place_in m root < length m.vertices → m.end ≤ m.count → vertices ≡ m.vertices →
    row ≡ get_or walks.rows (place_in m root) [] → lists ≡ get_or walks.lists (place_in m root) [] →
    along.first ≡ member_at vertices 0 → member_at vertices 0 + length along.distances ≡ m.end →
    IsSpread None vertices (length vertices) row (replicate (member_at vertices 0) None ++ along.distances) →
    IsSpread [] vertices (length vertices) (map (members_at vertices) lists) (replicate (member_at vertices 0) [] ++ along.hops) →
    reach ≡ reach_along along → IsSpreadReach m walks root reach
spread_along m walks root vertices row lists along reach inside end same row_is lists_is first long distances hops is =
    let front : List (Option ℕ) = replicate along.first None in
    subst (IsSpreadReach m walks root) (sym is)
    (far inside
    (omega (arith, length-append front along.distances, length-replicate {A = Option ℕ} along.first None, first, long, end))
    (spread_as None vertices m.vertices row (get_or walks.rows (place_in m root) []) (front ++ along.distances) same row_is
    (subst (λ (n : ℕ). IsSpread None vertices (length vertices) row (replicate n None ++ along.distances)) (sym first) distances))
    (spread_as [] vertices m.vertices (map (members_at vertices) lists)
    (map (members_at m.vertices) (get_or walks.lists (place_in m root) [])) (replicate along.first [] ++ along.hops) same
    (ap (λ (l : List ℕ). map (members_at l) lists) same ∙ ap (map (members_at m.vertices)) lists_is)
    (subst (λ (n : ℕ). IsSpread [] vertices (length vertices) (map (members_at vertices) lists) (replicate n [] ++ along.hops))
    (sym first) hops)))

-- the walks from one more vertex
pub spread_walks_more : (segments : List (List Port)) (m : Numbering) (walks : MemberWalks) (root : ℕ) (reach : Reach)
    (all : List Reach) →
    AreMembers segments m → AreMemberWalks segments m walks → root < m.count → IsSpreadReach m walks root reach →
    AreWalksBelow (SendsAcross segments) m.count root all →
    AreWalksBelow (SendsAcross segments) m.count (root + 1) (all ++ reach ∷ [])
spread_walks_more segments m walks root reach all are known below (lone out is) before =
    subst (λ (r : Reach). AreWalksBelow (SendsAcross segments) m.count (root + 1) (all ++ r ∷ [])) (sym is)
    (alone_more segments m.count root all are.fit below
    (λ v c arc. omega (arith, out, ((members_renumber segments m are).there root v c arc).0)) before)
spread_walks_more segments m walks root reach all are known below (far inside within distances hops) before =
    let arc : Arcs = SendsAcross segments in
    let p : ℕ = place_in m root in
    let back : member_at m.vertices p ≡ root = member_back m are.numbered root inside in
    let renumber = members_renumber segments m are in
    let few : length m.vertices ≤ m.count = omega (arith, are.numbered.few, are.numbered.end) in
    let row : IsDistanceRow arc m.count (member_at m.vertices p) reach.distances =
    row_spread arc (SendsAcross (placed m segments)) m.count (place_in m) m.vertices p
    (get_or walks.rows p []) reach.distances renumber few inside
    (known.rows.each p inside) distances within in
    let first : ListFirstHops arc (member_at m.vertices p) reach.hops =
    hops_spread arc (SendsAcross (placed m segments)) (place_in m) m.vertices p
    (get_or walks.lists p []) reach.hops renumber inside
    (known.lists.exact p inside) hops in
    walks_more arc m.count root all reach before (subst (λ (u : ℕ). IsDistanceRow arc m.count u reach.distances) back row)
    (subst (λ (u : ℕ). ListFirstHops arc u reach.hops) back first)
