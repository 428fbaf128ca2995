-- How much OSPF costs at most: the sum that a network is refused by, which stays below the cost that stands for unreachable.
use Rattle.std.specs.Prelude.{◌≡◌, ℕ, ◌+◌, ◌≤◌, List}
use Rattle.net_addr.specs.Addresses.{Block}
use Rattle.net_model.specs.Conditions.{ospf_cost_sum}
use Rattle.net_model.specs.Configuration.{Configuration}
use Rattle.net_model.specs.Network.{Network, InArea, IsBorderRouter}
use Rattle.net_model.specs.Refusals.{MakeNetwork}
use Rattle.net_model.specs.declared.area.Range.{Range}
use Rattle.net_model.specs.declared.bounds.TheConstants.{MOST_COST}
use Rattle.igp_theory.specs.Ospf.{IntraAreaCost, HasRange, RangeCost, BorderCost, Summary, InterAreaCost}

-- router u has a range of this area and this prefix, whatever else its line says
pub record HasRangeOfPrefix (net : Network) (u area : ℕ) (dest : Block) : Type 0 where
  pub range : Range
  pub has : HasRange net u range
  pub area_is : range.area ≡ area
  pub dest_is : range.dest ≡ dest

-- the border routers of an area have ranges of the same prefixes for it (RFC 2328, appendix C.2: the routers of an area agree
-- on its list of address ranges)
abbrev pub RangesAgree : Network → Type 0
RangesAgree net =
    (u v : ℕ) (r : Range) → HasRange net u r → IsBorderRouter net v → InArea net v r.area → HasRangeOfPrefix net v r.area r.dest

-- no cost of OSPF is above this one: neither within an area, nor what a range costs, nor what a border router has over the
-- backbone, nor what is announced into an area, nor, where ranges agree, between areas
pub record OspfCostsAreAtMost (net : Network) (most : ℕ) : Type 0 where
  pub intra_area : (n : ℕ) (p : Block) (u cost : ℕ) → IntraAreaCost net n p u cost → cost ≤ most
  pub range : (u : ℕ) (r : Range) (cost : ℕ) → RangeCost net u r cost → cost ≤ most
  pub border : (p : Block) (u cost : ℕ) → BorderCost net p u cost → cost ≤ most
  pub announced : (p : Block) (n b cost : ℕ) → Summary net p n b cost → cost ≤ most
  pub inter_area : RangesAgree net → (p : Block) (u cost : ℕ) → InterAreaCost net p u cost → cost ≤ most

-- in any network no cost is above the sum of all OSPF costs
abbrev pub OspfCostsAreAtMostSum : Type 0
OspfCostsAreAtMostSum = (net : Network) → OspfCostsAreAtMost net (ospf_cost_sum net)

-- in a network that configurations make every cost is below the one that stands for unreachable (RFC 2328, appendix B)
abbrev pub OspfCostsAreReachable : Type 0
OspfCostsAreReachable =
    (configs : List Configuration) (net : Network) → MakeNetwork configs net → OspfCostsAreAtMost net MOST_COST

-- in any network, whether ranges agree or not, a cost between areas is at most twice the sum: a walk may lead through the area
-- to a border router that hears over the backbone of a range of this area, and from there into the area again
abbrev pub InterAreaCostsAreAtMostTwice : Type 0
InterAreaCostsAreAtMostTwice =
    (net : Network) (p : Block) (u cost : ℕ) → InterAreaCost net p u cost → cost ≤ ospf_cost_sum net + ospf_cost_sum net
