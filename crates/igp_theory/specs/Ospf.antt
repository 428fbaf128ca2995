-- OSPF: intra-area routes, ranges and summaries, inter-area routes, the table (RFC 2328).
use Rattle.std.specs.Prelude.{◌≡◌, ◌≢◌, ℕ, ◌≤◌, Bool, true, false, Some, None, IsTrue, Contains}
use Rattle.net_addr.specs.Addresses.{Block, Covers, default_prefix}
use Rattle.net_model.specs.Configuration.{Configuration}
use Rattle.net_model.specs.Network.{Network, HasConfiguration, UpInterface, Connected, InArea, IsBorderRouter, Adjacent}
use Rattle.net_model.specs.declared.area.Range.{Range}
use Rattle.net_model.specs.declared.area.Stub.{Stub}
use Rattle.net_model.specs.declared.interface.Interface.{Interface}
use Rattle.net_model.specs.declared.zone.Zone.TheVariants.{Area}
use Rattle.walk_core.specs.Offers.{Offers, BestCost, BestHop}
use Rattle.route_core.specs.declared.entry.Entry.{Entry}
use Rattle.route_core.specs.declared.entry.Entry.TheVariants.{Discard}
use Rattle.igp_theory.specs.Routes.{ForwardsTo}

-- Intra-area routes (RFC 2328, section 16.1)

-- router w offers the subnet of an up interface in area n, at that interface's cost
pub record OffersSubnet (net : Network) (n : ℕ) (p : Block) (w cost : ℕ) : Type 0 where
  pub interface : Interface
  pub up : UpInterface net w interface
  pub subnet : interface.subnet ≡ Some p
  pub area : interface.area ≡ Some n
  pub costs : interface.cost ≡ cost

-- the intra-area cost of p at router u in area n, where u itself is in that area
pub record IntraAreaCost (net : Network) (n : ℕ) (p : Block) (u cost : ℕ) : Type 0 where
  pub inside : InArea net u n
  pub best : BestCost (Adjacent net (Area n)) (OffersSubnet net n p) u cost

-- a first hop of an intra-area route
pub record IntraAreaHop (net : Network) (p : Block) (u h : ℕ) : Type 0 where
  pub area : ℕ
  pub inside : InArea net u area
  pub best : BestHop (Adjacent net (Area area)) (OffersSubnet net area p) u h

-- p has an intra-area route at u
pub record IsIntraArea (net : Network) (p : Block) (u : ℕ) : Type 0 where
  pub area : ℕ
  pub cost : ℕ
  pub costs : IntraAreaCost net area p u cost

-- Ranges (RFC 2328, section 12.4.3); what a range costs is this project's profile

-- router u has the range r, and is a border router, where alone ranges count
pub record HasRange (net : Network) (u : ℕ) (r : Range) : Type 0 where
  pub border : IsBorderRouter net u
  pub config : Configuration
  pub router : HasConfiguration net u config
  pub among : Contains config.ranges r

-- p is a component of range r at u, at this intra-area cost: r covers it, and no longer range of
-- r's area does
pub record IsComponent (net : Network) (u : ℕ) (r : Range) (p : Block) (cost : ℕ) : Type 0 where
  pub range : HasRange net u r
  pub covered : Covers r.dest p
  pub reached : IntraAreaCost net r.area p u cost
  pub longest : (other : Range) → HasRange net u other → other.area ≡ r.area → Covers other.dest p → other.dest.len ≤ r.dest.len

-- a range with a component is active
pub record IsActive (net : Network) (u : ℕ) (r : Range) : Type 0 where
  pub dest : Block
  pub cost : ℕ
  pub component : IsComponent net u r dest cost

-- whether router u is compatible with RFC 1583, by which a range costs the least of its components; else it costs the greatest
pub record IsCompatible (net : Network) (u : ℕ) (compatible : Bool) : Type 0 where
  pub config : Configuration
  pub router : HasConfiguration net u config
  pub says : config.rfc1583 ≡ compatible

-- an active range costs what its line says; else the least cost of its components, and without
-- RFC 1583 compatibility the greatest
pub data RangeCost (net : Network) (u : ℕ) (r : Range) (cost : ℕ) : Type 0 where
  stated : r.cost ≡ Some cost → IsActive net u r → RangeCost net u r cost
  least : r.cost ≡ None → IsCompatible net u true → (p : Block) → IsComponent net u r p cost →
      ((q : Block) (other : ℕ) → IsComponent net u r q other → cost ≤ other) → RangeCost net u r cost
  greatest : r.cost ≡ None → IsCompatible net u false → (p : Block) → IsComponent net u r p cost →
      ((q : Block) (other : ℕ) → IsComponent net u r q other → other ≤ cost) → RangeCost net u r cost

-- Summaries (RFC 2328, section 12.4.3)

-- b is a border router with an intra-area cost for p in an area other than n, and p is no component
pub record SummarizesSubnet (net : Network) (n : ℕ) (p : Block) (b cost : ℕ) : Type 0 where
  pub border : IsBorderRouter net b
  pub area : ℕ
  pub other : area ≢ n
  pub costs : IntraAreaCost net area p b cost
  pub alone : (r : Range) (c : ℕ) → IsComponent net b r p c → ⊥

-- b has the active range p of an area other than n, which it advertises, at the range's cost
pub record SummarizesRange (net : Network) (n : ℕ) (p : Block) (b cost : ℕ) : Type 0 where
  pub range : Range
  pub has : HasRange net b range
  pub dest : range.dest ≡ p
  pub other : range.area ≢ n
  pub advertised : IsTrue range.advertise
  pub costs : RangeCost net b range cost

-- what a border router announces into the backbone: the subnets and ranges of other areas
pub data BackboneSummary (net : Network) (p : Block) (b cost : ℕ) : Type 0 where
  of_subnet : SummarizesSubnet net 0 p b cost → BackboneSummary net p b cost
  of_range : SummarizesRange net 0 p b cost → BackboneSummary net p b cost

-- an announcement that another router than u makes
pub record OfOthers (offer : Offers) (u : ℕ) (b cost : ℕ) : Type 0 where
  pub other : b ≢ u
  pub offered : offer b cost

-- u summarizes p itself: p is the prefix of an active range of u
pub record IsActiveRange (net : Network) (p : Block) (u : ℕ) : Type 0 where
  pub range : Range
  pub active : IsActive net u range
  pub dest : range.dest ≡ p

-- Inter-area routes of border routers: over the backbone alone (RFC 2328, section 16.2)

-- the inter-area cost of p at border router u
pub record BorderCost (net : Network) (p : Block) (u cost : ℕ) : Type 0 where
  pub border : IsBorderRouter net u
  pub no_intra : IsIntraArea net p u → ⊥
  pub no_range : IsActiveRange net p u → ⊥
  pub best : BestCost (Adjacent net (Area 0)) (OfOthers (BackboneSummary net p) u) u cost

-- Summaries into areas other than the backbone, stub areas (RFC 2328, sections 3.6 and 12.4.3)

-- router b says of area n that it is a stub area
pub record HasStub (net : Network) (b : ℕ) (n : ℕ) (s : Stub) : Type 0 where
  pub config : Configuration
  pub router : HasConfiguration net b config
  pub among : Contains config.stubs s
  pub area : s.area ≡ n

-- b announces nothing but a default route into area n
pub record IsTotallyStubby (net : Network) (b n : ℕ) : Type 0 where
  pub stub : Stub
  pub has : HasStub net b n stub
  pub alone : IsTrue stub.no_summary

-- what a border router announces into an area n other than the backbone
pub data AreaSummary (net : Network) (n : ℕ) (p : Block) (b cost : ℕ) : Type 0 where
  of_subnet : (IsTotallyStubby net b n → ⊥) → SummarizesSubnet net n p b cost → AreaSummary net n p b cost
  of_range : (IsTotallyStubby net b n → ⊥) → SummarizesRange net n p b cost → AreaSummary net n p b cost
  of_route : (IsTotallyStubby net b n → ⊥) → BorderCost net p b cost → AreaSummary net n p b cost
  of_stub : IsBorderRouter net b → p ≡ default_prefix → (s : Stub) → HasStub net b n s → s.default_cost ≡ cost → AreaSummary net n p b cost

-- what a border router announces into area n
pub data Summary (net : Network) (p : Block) : ℕ → ℕ → ℕ → Type 0 where
  into_backbone : {b cost : ℕ} → BackboneSummary net p b cost → Summary net p 0 b cost
  into_area : {n b cost : ℕ} → n ≢ 0 → AreaSummary net n p b cost → Summary net p n b cost

-- Inter-area routes of any router (RFC 2328, section 16.2)

-- the area whose announcements a router listens to: the backbone at a border router, else its one area
pub data ListensTo (net : Network) (u : ℕ) : ℕ → Type 0 where
  backbone : IsBorderRouter net u → ListensTo net u 0
  one_area : {n : ℕ} → (IsBorderRouter net u → ⊥) → InArea net u n → ListensTo net u n

-- the inter-area cost of p at u
pub record InterAreaCost (net : Network) (p : Block) (u cost : ℕ) : Type 0 where
  pub no_intra : IsIntraArea net p u → ⊥
  pub no_range : IsActiveRange net p u → ⊥
  pub area : ℕ
  pub listens : ListensTo net u area
  pub best : BestCost (Adjacent net (Area area)) (OfOthers (Summary net p area) u) u cost

-- a first hop of an inter-area route
pub record InterAreaHop (net : Network) (p : Block) (u h : ℕ) : Type 0 where
  pub area : ℕ
  pub listens : ListensTo net u area
  pub best : BestHop (Adjacent net (Area area)) (OfOthers (Summary net p area) u) u h

-- The OSPF table: for a prefix that isn't connected the intra-area route, else a discard entry of an
-- active range, else the inter-area route (RFC 2328, sections 11.1 and 16)
pub data OspfEntry (net : Network) (u : ℕ) (p : Block) (e : Entry) : Type 0 where
  intra_area : (Connected net u p → ⊥) → IsIntraArea net p u → ForwardsTo (IntraAreaHop net p u) e → OspfEntry net u p e
  discard : (Connected net u p → ⊥) → (IsIntraArea net p u → ⊥) → IsActiveRange net p u → e ≡ Discard → OspfEntry net u p e
  inter_area : (Connected net u p → ⊥) → (cost : ℕ) → InterAreaCost net p u cost → ForwardsTo (InterAreaHop net p u) e → OspfEntry net u p e
