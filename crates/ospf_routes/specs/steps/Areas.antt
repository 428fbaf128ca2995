-- The areas of a network, each with its least walks.
use Rattle.std.specs.Prelude.{◌≡◌, ◌≢◌, ◌<◌, ℕ, List, length, Option, None, MatchOption, All, Any, Contains, slice_index_or}
use Rattle.net_model.specs.Network.{Network, InArea, RunsArea, Adjacent}
use Rattle.net_model.specs.Refusals.{IsNetwork}
use Rattle.net_model.specs.declared.bounds.TheConstants.{MOST_ROUTERS}
use Rattle.net_model.specs.declared.interface.Interface.{Interface}
use Rattle.net_model.specs.declared.zone.Zone.TheVariants.{Area}
use Rattle.igp_theory.specs.Ospf.{ListensTo}
use Rattle.walk_core.specs.Reach.{Reach, AreLeastWalks, AreNear}
use Rattle.walk_core.specs.declared.segment.Port.{Port}
use Rattle.route_tables.specs.Entries.{AreJoinedBy}
use Rattle.zone_graph.specs.Walks.{AreZoneWalks}
use Rattle.ospf_routes.specs.Lists.{Exactly}
use Rattle.ospf_routes.specs.steps.Places.{AreEach}
use Rattle.ospf_routes.specs.steps.Members.{AreMembersBelow, IsBorderIn}
use Rattle.ospf_routes.specs.declared.areas.AreaWalks.{AreaWalks}

-- the interface is up and runs OSPF in another area than n
pub record RunsOther (n : ℕ) (i : Interface) : Type 0 where
  pub area : ℕ
  pub other : area ≢ n
  pub runs : RunsArea area i

-- area n is among these
pub record HasArea (areas : List AreaWalks) (n : ℕ) : Type 0 where
  pub area : AreaWalks
  pub among : Contains areas area
  pub number : area.number ≡ n

-- area n is at this place among these
pub record IsAreaAt (areas : List AreaWalks) (n zone : ℕ) : Type 0 where
  pub within : zone < length areas
  pub area : AreaWalks
  pub here : area ≡ slice_index_or areas zone area
  pub number : area.number ≡ n

-- the area has its least walks, its routers and its border routers
pub record IsArea (net : Network) (area : AreaWalks) : Type 0 where
  pub walks : AreZoneWalks net (Area area.number) area.walks.value
  pub members : AreMembersBelow net area.number (length net) area.members
  pub borders : Exactly (IsBorderIn net area.number) area.borders

-- u is adjacent to v in the area
pub record IsAdjacentIn (net : Network) (u v : ℕ) (area : AreaWalks) : Type 0 where
  pub cost : ℕ
  pub adjacent : Adjacent net (Area area.number) u v cost

-- the segments join the routers that are adjacent in one of these areas
abbrev pub JoinAreas : Network → List AreaWalks → List (List Port) → Type 0
JoinAreas net areas segments = AreJoinedBy (λ u v. Any (IsAdjacentIn net u v) areas) segments

-- the areas of these numbers, with their segments
pub record AreJoinedAreas (net : Network) (numbers : List ℕ) (areas : List AreaWalks) (segments : List (List Port)) : Type 0 where
  pub each : All (IsArea net) areas
  pub every : (n : ℕ) → Contains numbers n → HasArea areas n
  pub join : JoinAreas net areas segments

-- areas of a network, each with its least walks, its routers and its border routers; the backbone and every area that a
-- router is in are among them
pub record AreAreas (net : Network) (areas : List AreaWalks) : Type 0 where
  pub network : IsNetwork net
  pub each : All (IsArea net) areas
  pub backbone : HasArea areas 0
  pub every : (u n : ℕ) → InArea net u n → HasArea areas n

-- these are the least walks from router u in area n, none of them longer than one arc of 2^32 for each of
-- the most routers
pub record IsReach (net : Network) (n u : ℕ) (reach : Reach) : Type 0 where
  pub least : AreLeastWalks (Adjacent net (Area n)) u reach
  pub near : AreNear MOST_ROUTERS reach

-- this is the area that router u listens to, where there is one
abbrev pub IsListener : Network → ℕ → Option ℕ → Type 0
IsListener net u listens = MatchOption listens ((n : ℕ) → ListensTo net u n → ⊥) (ListensTo net u)

-- router u listens to the area at this place
pub record IsListenedPlace (net : Network) (areas : List AreaWalks) (u zone : ℕ) : Type 0 where
  pub area : ℕ
  pub listens : ListensTo net u area
  pub at : IsAreaAt areas area zone

-- router u listens to the area at this place, and to none where there is no place
abbrev pub IsListenerAt : Network → List AreaWalks → ℕ → Option ℕ → Type 0
IsListenerAt net areas u listens = MatchOption listens ((n : ℕ) → ListensTo net u n → ⊥) (IsListenedPlace net areas u)

-- these are the places of the areas that the routers below n listen to
abbrev pub AreListeners : Network → List AreaWalks → ℕ → List (Option ℕ) → Type 0
AreListeners net areas = AreEach (IsListenerAt net areas) None
