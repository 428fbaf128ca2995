-- What border routers summarize of a prefix, and announce into each area.
use Rattle.std.specs.Prelude.{◌≡◌, ◌≢◌, ℕ, List, [], Any, IsTrue, slice_index_or}
use Rattle.net_addr.specs.Addresses.{Block, default_prefix}
use Rattle.net_model.specs.Network.{Network, InArea, IsBorderRouter}
use Rattle.net_model.specs.declared.area.Range.{Range}
use Rattle.net_model.specs.declared.area.Stub.{Stub}
use Rattle.walk_core.specs.declared.offers.Offer.{Offer}
use Rattle.igp_theory.specs.Ospf.{IntraAreaCost, BorderCost, HasRange, IsComponent, RangeCost, SummarizesSubnet}
use Rattle.igp_theory.specs.Ospf.{SummarizesRange, HasStub, IsTotallyStubby, Summary}
use Rattle.ospf_routes.specs.Lists.{Exactly}
use Rattle.ospf_routes.specs.steps.Offered.{OutsideOf}
use Rattle.ospf_routes.specs.declared.ranges.ActiveRange.{ActiveRange}
use Rattle.ospf_routes.specs.declared.area_route.AreaRoute.{AreaRoute}

-- b is a border router with an intra-area cost for p in the route's area, and p is no component
pub record SummarizedSubnet (net : Network) (p : Block) (b : ℕ) (r : AreaRoute) : Type 0 where
  pub at : r.at ≡ b
  pub border : IsBorderRouter net b
  pub costs : IntraAreaCost net r.area p b r.asks
  pub alone : (range : Range) (c : ℕ) → IsComponent net b range p c → ⊥

-- the route of such a border router is of area n
pub record IsAreaSubnet (net : Network) (p : Block) (n : ℕ) (r : AreaRoute) : Type 0 where
  pub area : r.area ≡ n
  pub summarized : SummarizedSubnet net p r.at r

-- the active range is of the prefix p and advertised, and the route is that of router b
pub record IsRangeRoute (a : ActiveRange) (p : Block) (b : ℕ) (r : AreaRoute) : Type 0 where
  pub dest : a.range.dest ≡ p
  pub advertised : IsTrue a.range.advertise
  pub area : r.area ≡ a.range.area
  pub at : r.at ≡ b
  pub costs : r.asks ≡ a.cost

-- among the active ranges of all routers, one of router b is so
abbrev pub IsListedRange : List (List ActiveRange) → Block → ℕ → AreaRoute → Type 0
IsListedRange ranges p b r = Any (λ (a : ActiveRange). IsRangeRoute a p b r) (slice_index_or ranges b [])

-- b has the active range p of the route's area, which it advertises, at the range's cost
pub record SummarizedRange (net : Network) (p : Block) (b : ℕ) (r : AreaRoute) : Type 0 where
  pub at : r.at ≡ b
  pub range : Range
  pub has : HasRange net b range
  pub dest : range.dest ≡ p
  pub area : range.area ≡ r.area
  pub advertised : IsTrue range.advertise
  pub costs : RangeCost net b range r.asks

-- router b summarizes p out of the route's area
pub data SummarizedFrom (net : Network) (p : Block) (b : ℕ) (r : AreaRoute) : Type 0 where
  of_subnet : SummarizedSubnet net p b r → SummarizedFrom net p b r
  of_range : SummarizedRange net p b r → SummarizedFrom net p b r

-- these are the subnets and ranges that border routers summarize of p, each as a route of its own area
abbrev pub AreSummarized : Network → Block → List AreaRoute → Type 0
AreSummarized net p routes = Exactly (λ (r : AreaRoute). SummarizedFrom net p r.at r) routes

-- b summarizes p out of another area than n
pub data OutsideSummary (net : Network) (n : ℕ) (p : Block) (b cost : ℕ) : Type 0 where
  of_subnet : SummarizesSubnet net n p b cost → OutsideSummary net n p b cost
  of_range : SummarizesRange net n p b cost → OutsideSummary net n p b cost

-- the offer is what a border router in area n reaches of p over the backbone and passes on, as it announces more than the default route
pub record IsPassedOn (net : Network) (n : ℕ) (p : Block) (o : Offer) : Type 0 where
  pub inside : InArea net o.at n
  pub allowed : IsTotallyStubby net o.at n → ⊥
  pub costs : BorderCost net p o.at o.asks

-- router b is in area n, and announces more than the default route into it
pub record Announces (net : Network) (n b : ℕ) : Type 0 where
  pub inside : InArea net b n
  pub summaries : n ≢ 0 → IsTotallyStubby net b n → ⊥

-- the offer is the route, which is of another area than n, and its router announces it into area n
pub record IsOutgoing (net : Network) (n : ℕ) (o : Offer) (r : AreaRoute) : Type 0 where
  pub outside : OutsideOf n r o
  pub announces : Announces net n o.at

-- the stub area is n, with a default route alone
pub record IsAlone (n : ℕ) (s : Stub) : Type 0 where
  pub area : s.area ≡ n
  pub alone : IsTrue s.no_summary

-- the offer is router b's default route into the stub area, which is n
pub record IsDefault (n b : ℕ) (o : Offer) (s : Stub) : Type 0 where
  pub area : s.area ≡ n
  pub at : o.at ≡ b
  pub costs : o.asks ≡ s.default_cost

-- the offer is a default route of router b, a border router in area n, into that area
pub record RouterDefault (net : Network) (n b : ℕ) (o : Offer) : Type 0 where
  pub at : o.at ≡ b
  pub inside : InArea net b n
  pub border : IsBorderRouter net b
  pub stub : Stub
  pub has : HasStub net b n stub
  pub costs : stub.default_cost ≡ o.asks

-- p is the prefix of all addresses, and the offer a default route into area n
pub record HasDefault (net : Network) (n : ℕ) (p : Block) (o : Offer) : Type 0 where
  pub all : p ≡ default_prefix
  pub default : RouterDefault net n o.at o

-- router b is in area n, and announces p into it
pub record IsHeard (net : Network) (p : Block) (n b cost : ℕ) : Type 0 where
  pub inside : InArea net b n
  pub summary : Summary net p n b cost
