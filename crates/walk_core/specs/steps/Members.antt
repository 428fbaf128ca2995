-- Some vertices of many, numbered anew among themselves, and what is known of them as known of all.
use Rattle.std.specs.Prelude.{◌≡◌, ◌≢◌, ℕ, ◌+◌, ◌<◌, ◌≤◌, ◌⊎◌, Bool, false, true, List, [], Option, None, Contains, length, map}
use Rattle.std.specs.Prelude.{slice_index_or}
use Rattle.walk_core.specs.KeptWalks.{lone_row}
use Rattle.walk_core.specs.Reach.{Reach}
use Rattle.walk_core.specs.Segments.{AreSegments, SendsAcross}
use Rattle.walk_core.specs.declared.segment.Port.{Port}
use Rattle.walk_core.specs.steps.Ascending.{AreAscending}
use Rattle.walk_core.specs.steps.FirstHops.{AreAllHops}
use Rattle.walk_core.specs.steps.Flooding.{segment_at}
use Rattle.walk_core.specs.steps.Rows.{AreDistanceRows}

-- the members of so many vertices: the place of each vertex, the vertex of each place, and one past the last of these
pub record Numbering : Type 0 where
  pub count : ℕ
  pub places : List ℕ
  pub vertices : List ℕ
  pub end : ℕ

-- the place of a vertex, which is no member's where it is none
abbrev pub place_in : Numbering → ℕ → ℕ
place_in members v = slice_index_or members.places v members.count

-- the vertex of a place
abbrev pub member_at : List ℕ → ℕ → ℕ
member_at vertices p = slice_index_or vertices p 0

-- vertices below this, in ascending order
pub record AreVertices (vertices : List ℕ) (end : ℕ) : Type 0 where
  pub within : (p : ℕ) → p < length vertices → member_at vertices p < end
  pub ascending : (p q : ℕ) → p < q → q < length vertices → member_at vertices p < member_at vertices q

-- the vertex has the place of a member, whose vertex it is
pub record HasPlace (members : Numbering) (v : ℕ) : Type 0 where
  pub place : place_in members v < length members.vertices
  pub back : member_at members.vertices (place_in members v) ≡ v

-- places and vertices fit each other
pub record PlacesFit (members : Numbering) : Type 0 where
  pub long : length members.places ≡ members.count
  pub few : length members.vertices ≤ members.end
  pub end : members.end ≤ members.count
  pub vertices : AreVertices members.vertices members.end
  pub places : (p : ℕ) → p < length members.vertices → place_in members (member_at members.vertices p) ≡ p
  pub others : (v : ℕ) → HasPlace members v ⊎ (place_in members v ≡ members.count)

-- where it is marked, one more vertex becomes a member, behind those that are
pub record NumbersVertex (vertex : ℕ) (marked : Bool) (before after : Numbering) : Type 0 where
  pub count : after.count ≡ before.count
  pub more : length before.vertices ≤ length after.vertices
  pub end : after.end ≤ vertex + 1
  pub kept : (v : ℕ) → v < vertex → place_in after v ≡ place_in before v
  pub member : marked ≡ true → place_in after vertex < length after.vertices

-- each marked vertex below n is a member
abbrev pub HaveMarked : List Bool → ℕ → Numbering → Type 0
HaveMarked marks n members = (v : ℕ) → v < n → slice_index_or marks v false ≡ true → place_in members v < length members.vertices

-- the vertices of the ports of the first n segments are marked
abbrev pub AreMarked : List (List Port) → ℕ → List Bool → Type 0
AreMarked segments n marks = (i : ℕ) → i < n → (port : Port) → Contains (segment_at segments i) port →
    slice_index_or marks port.vertex false ≡ true

-- those of some ports are, and what was so before
pub record Marks (ports : List Port) (before after : List Bool) : Type 0 where
  pub long : length after ≡ length before
  pub kept : (v : ℕ) → slice_index_or before v false ≡ true → slice_index_or after v false ≡ true
  pub each : (port : Port) → Contains ports port → slice_index_or after port.vertex false ≡ true

-- each vertex of a port is a member
pub record AreMembers (segments : List (List Port)) (members : Numbering) : Type 0 where
  pub fit : AreSegments members.count segments
  pub numbered : PlacesFit members
  pub ports : (segment : List Port) → Contains segments segment → (port : Port) → Contains segment port →
      place_in members port.vertex < length members.vertices

-- the port with the place of its vertex
abbrev pub placed_port : Numbering → Port → Port
placed_port members port = record { vertex = place_in members port.vertex; cost = port.cost }

-- the ports of a segment
abbrev pub placed_ports : Numbering → List Port → List Port
placed_ports members ports = map (placed_port members) ports

-- those of all segments
abbrev pub placed : Numbering → List (List Port) → List (List Port)
placed members segments = map (placed_ports members) segments

-- what stands at the first n places stands at their vertices, and at no other vertex anything
pub record IsSpread {X : Type 0} (none : X) (vertices : List ℕ) (n : ℕ) (part whole : List X) : Type 0 where
  pub at : (p : ℕ) → p < n → slice_index_or whole (member_at vertices p) none ≡ slice_index_or part p none
  pub others : (v : ℕ) → ((p : ℕ) → p < n → member_at vertices p ≢ v) → slice_index_or whole v none ≡ none

-- the vertices of some places
abbrev pub members_at : List ℕ → List ℕ → List ℕ
members_at vertices list = map (member_at vertices) list

-- lists of places, one for each of so many, for each of them
pub record AreMemberLists (n : ℕ) (lists : List (List (List ℕ))) : Type 0 where
  pub long : length lists ≡ n
  pub below : (p : ℕ) → p < n → (v h : ℕ) → Contains (slice_index_or (slice_index_or lists p []) v []) h → h < n
  pub ascending : (p : ℕ) → p < n → AreAscending (slice_index_or lists p [])

-- distances between members, and first hops
pub record MemberWalks : Type 0 where
  pub rows : List (List (Option ℕ))
  pub lists : List (List (List ℕ))

-- what is known of the walks from a vertex, by those from its place among the members
pub data IsSpreadReach (members : Numbering) (walks : MemberWalks) (root : ℕ) (reach : Reach) : Type 0 where
  lone : length members.vertices ≤ place_in members root → reach ≡ (record { distances = lone_row root; hops = [] }) →
      IsSpreadReach members walks root reach
  far : place_in members root < length members.vertices → length reach.distances ≤ members.count →
      IsSpread None members.vertices (length members.vertices)
      (slice_index_or walks.rows (place_in members root) []) reach.distances →
      IsSpread [] members.vertices (length members.vertices)
      (map (members_at members.vertices) (slice_index_or walks.lists (place_in members root) [])) reach.hops →
      IsSpreadReach members walks root reach

-- the distances and first hops are those of the members over segments
pub record AreMemberWalks (segments : List (List Port)) (members : Numbering) (walks : MemberWalks) : Type 0 where
  pub rows : AreDistanceRows (SendsAcross (placed members segments)) (length members.vertices)
      (length members.vertices) walks.rows
  pub lists : AreAllHops (SendsAcross (placed members segments)) (length members.vertices) walks.lists
