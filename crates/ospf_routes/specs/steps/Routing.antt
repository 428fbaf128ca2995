-- The routes of a router within and between areas.
use Rattle.std.specs.Prelude.{◌↔◌, ◌<◌, ℕ, List, length, Any, Contains}
use Rattle.std.specs.List.Sorted.{IsStrictlyIncreasing}
use Rattle.net_addr.specs.Addresses.{Block}
use Rattle.net_model.specs.Network.{Network, InArea, Adjacent}
use Rattle.net_model.specs.declared.zone.Zone.TheVariants.{Area}
use Rattle.walk_core.specs.Offers.{BestCost, BestHop}
use Rattle.route_core.specs.Hops.{AreHops}
use Rattle.igp_theory.specs.Ospf.{OffersSubnet, IntraAreaCost, IntraAreaHop, IsIntraArea, OfOthers, Summary, ListensTo, InterAreaHop}

-- the hops below n that are in one of the lists, in ascending order
pub record AreUnited (lists : List (List ℕ)) (n : ℕ) (hops : List ℕ) : Type 0 where
  pub ascending : IsStrictlyIncreasing hops
  pub exact : (h : ℕ) → Contains hops h ↔ ((h < n) × Any (λ (list : List ℕ). Contains list h) lists)

-- and there are some lists
pub record AreSomeUnited (lists : List (List ℕ)) (n : ℕ) (hops : List ℕ) : Type 0 where
  pub some : 0 < length lists
  pub united : AreUnited lists n hops

-- p has an intra-area route at u in area n, with these hops
pub record IsAreaRoute (net : Network) (n : ℕ) (p : Block) (u : ℕ) (hops : List ℕ) : Type 0 where
  pub inside : InArea net u n
  pub cost : ℕ
  pub costs : IntraAreaCost net n p u cost
  pub hops_are : AreHops (BestHop (Adjacent net (Area n)) (OffersSubnet net n p) u) hops

-- these are the hops of p's intra-area routes at u, a list for each of the areas
pub record AreAreaRoutes (net : Network) (p : Block) (u : ℕ) (lists : List (List ℕ)) : Type 0 where
  pub each : (hops : List ℕ) → Contains lists hops → (n : ℕ) × IsAreaRoute net n p u hops
  pub every : (n cost : ℕ) → IntraAreaCost net n p u cost → (hops : List ℕ) × Contains lists hops × IsAreaRoute net n p u hops

-- p has an intra-area route at u, with these hops
pub record IsIntraRoute (net : Network) (p : Block) (u : ℕ) (hops : List ℕ) : Type 0 where
  pub is : IsIntraArea net p u
  pub hops_are : AreHops (IntraAreaHop net p u) hops

-- what others announce of p into the area that u listens to costs this at u
pub record ListenedCost (net : Network) (p : Block) (u cost : ℕ) : Type 0 where
  pub area : ℕ
  pub listens : ListensTo net u area
  pub best : BestCost (Adjacent net (Area area)) (OfOthers (Summary net p area) u) u cost

-- and these are the hops
pub record IsListenedRoute (net : Network) (p : Block) (u : ℕ) (hops : List ℕ) : Type 0 where
  pub cost : ℕ
  pub costs : ListenedCost net p u cost
  pub hops_are : AreHops (InterAreaHop net p u) hops
