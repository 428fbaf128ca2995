-- The plain data of a router's configuration, and the facts that every configuration keeps.
use Rattle.std.specs.Prelude.{◌≡◌, ◌≢◌, ℕ, ◌^◌, ◌<◌, ◌≤◌, Bool, ◌⊎◌, List, length, Option, IfSome, IsSome, IsTrue, All, AllPairs}
use Rattle.net_addr.specs.Addresses.{IsBlock}
use Rattle.net_model.specs.declared.bounds.TheConstants.{ISIS_DISTANCE, MOST_COST, MOST_DISTANCE, MOST_INTERFACE_COST, MOST_METRIC, MOST_PROCESS}
use Rattle.net_model.specs.declared.area.Range.{Range}
use Rattle.net_model.specs.declared.area.Stub.{Stub}
use Rattle.net_model.specs.declared.config.Distances.{Distances}
use Rattle.net_model.specs.declared.config.Levels.{Levels}
use Rattle.net_model.specs.declared.interface.Interface.{Interface}

-- what a configuration says of its router
pub record Configuration : Type 0 where
  pub name : List ℕ
  pub interfaces : List Interface
  pub process : Option ℕ
  pub isis : Bool
  pub tag : List ℕ
  pub isis_area : List ℕ
  pub system : ℕ
  pub levels : Levels
  pub leak : Bool
  pub ranges : List Range
  pub stubs : List Stub
  pub rfc1583 : Bool
  pub distances : Distances

-- the bytes of a router's name: letters, digits, `-`, `_` and `.`
abbrev pub IsNameByte : ℕ → Type 0
IsNameByte b =
    ((48 ≤ b) × (b ≤ 57)) ⊎ ((65 ≤ b) × (b ≤ 90)) ⊎ ((97 ≤ b) × (b ≤ 122)) ⊎ (b ≡ 45) ⊎ (b ≡ 95) ⊎ (b ≡ 46)

-- a router's name has 1 to 63 of these bytes
pub record IsRouterName (name : List ℕ) : Type 0 where
  pub some : 1 ≤ length name
  pub short : length name ≤ 63
  pub bytes : All IsNameByte name

-- the numbers of an interface are in their ranges, its subnet is a prefix, and without one it isn't up
pub record IsInterface (i : Interface) : Type 0 where
  pub cost : (1 ≤ i.cost) × (i.cost ≤ MOST_INTERFACE_COST)
  pub metric1 : (1 ≤ i.metric1) × (i.metric1 ≤ MOST_METRIC)
  pub metric2 : (1 ≤ i.metric2) × (i.metric2 ≤ MOST_METRIC)
  pub prefix : IfSome i.subnet IsBlock
  pub subnet : IsTrue i.up → IsSome i.subnet

-- a range is of a prefix, and its cost is at most that of a path
pub record IsRange (r : Range) : Type 0 where
  pub prefix : IsBlock r.dest
  pub cost : IfSome r.cost (λ c. c ≤ MOST_COST)

-- a stub area isn't the backbone, and its default cost is in its range
pub record IsStub (s : Stub) : Type 0 where
  pub area : 1 ≤ s.area
  pub default_cost : s.default_cost ≤ MOST_COST

-- the distance of OSPF is from 1 to the greatest and not that of IS-IS, the distance of IS-IS is its own or the greatest
pub record AreDistances (d : Distances) : Type 0 where
  pub some : 1 ≤ d.ospf
  pub most : d.ospf ≤ MOST_DISTANCE
  pub apart : d.ospf ≢ ISIS_DISTANCE
  pub isis : (d.isis ≡ ISIS_DISTANCE) ⊎ (d.isis ≡ MOST_DISTANCE)

-- two ranges are of different areas or have different prefixes
abbrev pub AreRangesApart : Range → Range → Type 0
AreRangesApart r s = (r.area ≡ s.area) × (r.dest ≡ s.dest) → ⊥

-- the facts that every configuration keeps
pub record IsConfiguration (c : Configuration) : Type 0 where
  pub name : IsRouterName c.name
  pub interfaces : All IsInterface c.interfaces
  pub interface_names : AllPairs (λ (i j : Interface). i.name ≢ j.name) c.interfaces
  pub process : IfSome c.process (λ p. (1 ≤ p) × (p ≤ MOST_PROCESS))
  pub system : c.system < 2 ^ 48
  pub ranges : All IsRange c.ranges
  pub ranges_apart : AllPairs AreRangesApart c.ranges
  pub stubs : All IsStub c.stubs
  pub stubs_apart : AllPairs (λ (s t : Stub). s.area ≢ t.area) c.stubs
  pub distances : AreDistances c.distances
