-- Least walks that begin on a segment, and the first hops of its vertices by them.
use Rattle.std.specs.Prelude.{◌≡◌, ℕ, ◌+◌, ◌<◌, ◌≤◌, ◌↔◌, ◌⊎◌, ◌∷◌, ◌++◌, List, [], length, Option, Some, None, Contains, Any, MatchOption, slice_index_or}
use Rattle.walk_core.specs.steps.Adding.{SomeLeadsTo}
use Rattle.walk_core.specs.steps.Cheapest.{IsCheapestCost}
use Rattle.walk_core.specs.steps.Rows.{AreDistanceRows, distance_between}
use Rattle.walk_core.specs.steps.Flooding.{segment_at}
use Rattle.walk_core.specs.Reach.{Reach, distance_of, listed_hops_of}
use Rattle.walk_core.specs.Segments.{AreSegments, SendsAcross}
use Rattle.walk_core.specs.declared.ways.Aim.{Aim}
use Rattle.walk_core.specs.declared.outlets.Outlet.{Outlet}
use Rattle.walk_core.specs.declared.segment.Port.{Port}

-- how far v is from the vertex of a port, by the rows of distances
abbrev pub beyond_port : List (List (Option ℕ)) → ℕ → Port → Option ℕ
beyond_port rows v port = distance_between rows port.vertex v

-- h has the port, and what is looked for is as far from it
pub record IsEnd (rows : List (List (Option ℕ))) (aim : Aim) (port : Port) (h : ℕ) : Type 0 where
  pub far : beyond_port rows aim.vertex port ≡ Some aim.distance
  pub vertex : port.vertex ≡ h

-- h has one of the ports
abbrev pub IsEndAt : List (List (Option ℕ)) → List Port → Aim → ℕ → Type 0
IsEndAt rows ports aim h = SomeLeadsTo (IsEnd rows aim) ports h

-- the vertices of the ports from which v is at this distance, and none where it has none
pub record AreEnds (rows : List (List (Option ℕ))) (ports : List Port) (v : ℕ) (distance : Option ℕ) (ends : List ℕ) : Type 0 where
  pub some : (d h : ℕ) → distance ≡ Some d → Contains ends h ↔ IsEndAt rows ports (record { vertex = v; distance = d }) h
  pub none : distance ≡ None → ends ≡ []

-- how far the nearest ones of some vertices are from what is looked for, and which are
pub record Nearest : Type 0 where
  pub distance : Option ℕ
  pub ends : List ℕ

-- one more vertex, which is at this distance, joins the nearest ones so far, takes their place, or neither
pub data JoinsNearest (vertex : ℕ) (distance : Option ℕ) (before : Nearest) (ends : List ℕ) : Type 0 where
  nowhere : distance ≡ None → ends ≡ before.ends → JoinsNearest vertex distance before ends
  farther : (n d : ℕ) → distance ≡ Some d → before.distance ≡ Some n → n < d → ends ≡ before.ends → JoinsNearest vertex distance before ends
  as_near : (d : ℕ) → distance ≡ Some d → before.distance ≡ Some d → ends ≡ before.ends ++ vertex ∷ [] → JoinsNearest vertex distance before ends
  first : (d : ℕ) → distance ≡ Some d → before.distance ≡ None → ends ≡ vertex ∷ [] → JoinsNearest vertex distance before ends
  nearer : (n d : ℕ) → distance ≡ Some d → before.distance ≡ Some n → d < n → ends ≡ vertex ∷ [] → JoinsNearest vertex distance before ends

-- what is known of the walks that begin on a segment: how far the nearest of its vertices is from v, and which are
pub record AreWalksFrom (rows : List (List (Option ℕ))) (ports : List Port) (count : ℕ) (reach : Reach) : Type 0 where
  pub distances : (v : ℕ) → v < count → IsCheapestCost (beyond_port rows v) ports (distance_of reach v)
  pub ends : (v : ℕ) → v < count → AreEnds rows ports v (distance_of reach v) (listed_hops_of reach v)
  pub within : length reach.hops ≤ count

-- what is known of the walks from the segment of this place
abbrev pub reach_at : List Reach → ℕ → Reach
reach_at beyond place = slice_index_or beyond place (record { distances = []; hops = [] })

-- a segment of more than two ports
abbrev pub IsLan : List Port → Type 0
IsLan ports = 2 < length ports

-- so many vertices, their segments, how far the vertices are from each other, and the walks that begin on the segments
pub record Mesh : Type 0 where
  pub count : ℕ
  pub segments : List (List Port)
  pub rows : List (List (Option ℕ))
  pub beyond : List Reach

-- the walks are known of each LAN among the first n segments
pub record KnowsBeyond (mesh : Mesh) (n : ℕ) : Type 0 where
  pub long : length mesh.beyond ≡ n
  pub each : (i : ℕ) → i < n → IsLan (segment_at mesh.segments i) → AreWalksFrom mesh.rows (segment_at mesh.segments i) mesh.count (reach_at mesh.beyond i)

-- it is so of all
pub record IsMesh (mesh : Mesh) : Type 0 where
  pub ports : AreSegments mesh.count mesh.segments
  pub rows : AreDistanceRows (SendsAcross mesh.segments) mesh.count mesh.count mesh.rows
  pub beyond : KnowsBeyond mesh (length mesh.segments)

-- a segment has at most a port of another vertex besides those of this one, and `to` has one
pub record IsFarEnd (ports : List Port) (vertex to : ℕ) : Type 0 where
  pub few : length ports ≤ 2
  pub port : Any (λ p. p.vertex ≡ to) ports
  pub only : (p : Port) → Contains ports p → (p.vertex ≡ vertex) ⊎ (p.vertex ≡ to)

-- the outlet is a port of the root
pub record IsOutlet (segments : List (List Port)) (root : ℕ) (outlet : Outlet) : Type 0 where
  pub port : Port
  pub within : outlet.place < length segments
  pub among : Contains (segment_at segments outlet.place) port
  pub vertex : port.vertex ≡ root
  pub costs : port.cost ≡ outlet.cost
  pub leads : MatchOption outlet.to (IsLan (segment_at segments outlet.place)) (IsFarEnd (segment_at segments outlet.place) root)

-- one of the outlets leads onto the segment of this place at this cost
pub record HasOutlet (outlets : List Outlet) (place cost : ℕ) : Type 0 where
  pub outlet : Outlet
  pub among : Contains outlets outlet
  pub leads : outlet.place ≡ place
  pub costs : outlet.cost ≡ cost

-- each port of the root at this place is one of the outlets
abbrev pub ListsPorts : List Port → ℕ → ℕ → List Outlet → Type 0
ListsPorts ports place root outlets =
    (port : Port) → Contains ports port → port.vertex ≡ root → HasOutlet outlets place port.cost

-- the outlets are the ports of the root in the first n segments, every one of them
pub record AreOutlets (segments : List (List Port)) (root n : ℕ) (outlets : List Outlet) : Type 0 where
  pub each : (outlet : Outlet) → Contains outlets outlet → IsOutlet segments root outlet
  pub every : (i : ℕ) → i < n → ListsPorts (segment_at segments i) i root outlets

-- the outlets of each vertex in the first n segments
abbrev pub AreOutletsBefore : List (List Port) → ℕ → List (List Outlet) → Type 0
AreOutletsBefore segments n all = (u : ℕ) → u < length all → AreOutlets segments u n (slice_index_or all u [])

-- the outlets of each vertex below n
pub record AreAllOutlets (segments : List (List Port)) (n : ℕ) (all : List (List Outlet)) : Type 0 where
  pub long : length all ≡ n
  pub each : (u : ℕ) → u < n → AreOutlets segments u (length segments) (slice_index_or all u [])

-- so many vertices, the segments that join them, and the outlets of each
pub record Joined : Type 0 where
  pub count : ℕ
  pub segments : List (List Port)
  pub outlets : List (List Outlet)

-- the segments are of ports of the vertices, and the outlets are these ports
pub record IsJoined (graph : Joined) : Type 0 where
  pub segments : AreSegments graph.count graph.segments
  pub outlets : AreAllOutlets graph.segments graph.count graph.outlets

-- the vertices from this one on have no outlets
pub record IsJoinedEnd (all : List (List Outlet)) (end : ℕ) : Type 0 where
  pub within : end ≤ length all
  pub lone : (u : ℕ) → end ≤ u → u < length all → length (slice_index_or all u []) ≡ 0

-- what is left behind a cost
pub record IsBehind (aim : Aim) (cost : ℕ) (rest : Aim) : Type 0 where
  pub vertex : rest.vertex ≡ aim.vertex
  pub sum : cost + rest.distance ≡ aim.distance

-- h has a port of the outlet's segment, and behind the cost of the outlet it is as far from what is looked for
pub record GoesOver (mesh : Mesh) (aim : Aim) (outlet : Outlet) (h : ℕ) : Type 0 where
  pub rest : Aim
  pub behind : IsBehind aim outlet.cost rest
  pub end : IsEndAt mesh.rows (segment_at mesh.segments outlet.place) rest h

-- it goes over one of the outlets
abbrev pub GoesOut : Mesh → List Outlet → Aim → ℕ → Type 0
GoesOut mesh outlets aim h = SomeLeadsTo (GoesOver mesh aim) outlets h

-- over the outlet what is looked for is no nearer than it is
abbrev pub IsNoNearer : Mesh → Outlet → Aim → Type 0
IsNoNearer mesh outlet aim = (port : Port) (d : ℕ) → Contains (segment_at mesh.segments outlet.place) port →
    beyond_port mesh.rows aim.vertex port ≡ Some d → aim.distance ≤ outlet.cost + d

-- h is the end of a link, and what is looked for is as far from it
pub record IsLinkEnd (rows : List (List (Option ℕ))) (rest : Aim) (to h : ℕ) : Type 0 where
  pub far : distance_between rows to rest.vertex ≡ Some rest.distance
  pub is : to ≡ h

-- where an outlet leads over a link, the end of this is the only one behind its cost; else it leads onto a LAN
abbrev pub EndsAlone : Mesh → Outlet → Aim → Type 0
EndsAlone mesh outlet aim = MatchOption outlet.to (IsLan (segment_at mesh.segments outlet.place))
    (λ to. (rest : Aim) (h : ℕ) → IsBehind aim outlet.cost rest →
    IsEndAt mesh.rows (segment_at mesh.segments outlet.place) rest h ↔ IsLinkEnd mesh.rows rest to h)
