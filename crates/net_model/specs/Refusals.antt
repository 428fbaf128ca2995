-- Which network configurations make, and why they make none.
use Rattle.std.specs.Prelude.{◌≡◌, ◌≢◌, ℕ, ◌≤◌, ◌<◌, List, length, All, AllPairs, IsPermutation, min}
use Rattle.std.specs.Cmp.Lexicographic.{slice_cmp}
use Rattle.std.specs.Ordering.{nat_cmp}
use Rattle.std.specs.declared.cmp.Ordering.TheVariants.{Less}
use Rattle.net_model.specs.Conditions.{HaveOneAddress, RunTwoAreas, LacksBackbone, HaveOneSystem, DifferOnStub, ospf_cost_sum, isis_metric_sum, IsConsistent}
use Rattle.net_model.specs.Conditions.{AddressesDiffer, PassesAreas, PassesBorders, PassesOspfCosts, PassesIsisMetrics, PassesSystems}
use Rattle.net_model.specs.Configuration.{Configuration, IsConfiguration}
use Rattle.net_model.specs.Least.{IsBlockAtMost}
use Rattle.net_model.specs.Limits.{all_up_interfaces, CountsDests, IsWithinLimits}
use Rattle.net_model.specs.Lookups.{IsNamed}
use Rattle.net_model.specs.Network.{Network}
use Rattle.net_model.specs.RouterNames.{IsLeastNamedPair, IsLowestNamed}
use Rattle.net_model.specs.declared.bounds.TheConstants.{MOST_COST, MOST_DESTS, MOST_PATH_METRIC, MOST_ROUTERS, MOST_UP_INTERFACES}
use Rattle.net_model.specs.declared.refusal.LimitWhat.TheVariants.{Routers, Interfaces, Dests}
use Rattle.net_model.specs.declared.refusal.NetRefusal.{NetRefusal}
use Rattle.net_model.specs.declared.refusal.NetRefusal.TheVariants.{Limit, TwoNames, AddressTwice, PrefixInTwoAreas, BorderWithoutBackbone, OspfCostSum}
use Rattle.net_model.specs.declared.refusal.NetRefusal.TheVariants.{IsisMetricSum, SystemIdTwice, StubMismatch, OutOfMemory}

-- byte order of names
abbrev pub IsBelow : List ℕ → List ℕ → Type 0
IsBelow a b = slice_cmp nat_cmp a b ≡ Less

-- the names of the routers ascend, so no two are alike
abbrev pub NamesAscend : Network → Type 0
NamesAscend net = AllPairs (λ (c d : Configuration). IsBelow c.name d.name) net

-- the network of configurations has the same ones, in byte order of their names
pub record IsNetworkOf (configs : List Configuration) (net : Network) : Type 0 where
  pub same : IsPermutation configs net
  pub ascending : NamesAscend net

-- configurations make a network: they are within the limits, no two of them have one name, and it is consistent
pub record MakeNetwork (configs : List Configuration) (net : Network) : Type 0 where
  pub limits : IsWithinLimits configs
  pub network : IsNetworkOf configs net
  pub consistent : IsConsistent net

-- what every network keeps
pub record IsNetwork (net : Network) : Type 0 where
  pub limits : IsWithinLimits net
  pub ascending : NamesAscend net
  pub configurations : All IsConfiguration net
  pub consistent : IsConsistent net

-- a count as a refusal carries it: the greatest number of 64 bits stands for all above
abbrev pub carried : ℕ → ℕ
carried count = min count 18446744073709551615

-- a count or sum is above its limit, and the refusal carries it
pub record IsAbove (most count number : ℕ) : Type 0 where
  pub above : most < count
  pub number_is : number ≡ carried count

-- the configurations name too many prefixes, and the refusal carries how many
pub record NameTooMany (configs : List Configuration) (number : ℕ) : Type 0 where
  pub dests : ℕ
  pub counted : CountsDests configs dests
  pub above : IsAbove MOST_DESTS dests number

-- two configurations have this name
pub record TwoHaveName (configs : List Configuration) (name : List ℕ) : Type 0 where
  pub one : ℕ
  pub two : ℕ
  pub apart : one ≢ two
  pub first : IsNamed configs name one
  pub second : IsNamed configs name two

-- the least name that two configurations have
pub record IsLeastDouble (configs : List Configuration) (name : List ℕ) : Type 0 where
  pub double : TwoHaveName configs name
  pub least : (other : List ℕ) → TwoHaveName configs other → IsBelow other name → ⊥

-- the place of a refusal in the order in which its condition is looked at
abbrev pub place_of : NetRefusal → ℕ
place_of (Limit Routers _) = 0
place_of (Limit Interfaces _) = 1
place_of (Limit Dests _) = 2
place_of (TwoNames _) = 3
place_of (AddressTwice _ _ _) = 4
place_of (PrefixInTwoAreas _ _ _) = 5
place_of (BorderWithoutBackbone _) = 6
place_of (OspfCostSum _) = 7
place_of (IsisMetricSum _) = 8
place_of (SystemIdTwice _ _) = 9
place_of (StubMismatch _ _ _) = 10
place_of OutOfMemory = 11

-- the condition of a refusal of a network holds, and the refusal carries its least case, whatever others do
abbrev pub Stands : NetRefusal → Network → Type 0
Stands (AddressTwice one two address) net = IsLeastNamedPair (λ a b. a ≤ b) (HaveOneAddress net) net one two address
Stands (PrefixInTwoAreas one two dest) net = IsLeastNamedPair IsBlockAtMost (RunTwoAreas net) net one two dest
Stands (BorderWithoutBackbone router) net = IsLowestNamed (LacksBackbone net) net router
Stands (OspfCostSum sum) net = IsAbove MOST_COST (ospf_cost_sum net) sum
Stands (IsisMetricSum sum) net = IsAbove MOST_PATH_METRIC (isis_metric_sum net) sum
Stands (SystemIdTwice one two) net = (system : ℕ) × IsLeastNamedPair (λ a b. a ≤ b) (HaveOneSystem net) net one two system
Stands (StubMismatch one two area) net = IsLeastNamedPair (λ a b. a ≤ b) (DifferOnStub net) net one two area
Stands _ net = ⊥

-- a refusal of this place stands, or memory ran out
abbrev pub MayStand : ℕ → NetRefusal → Network → Type 0
MayStand place OutOfMemory net = Unit {0}
MayStand place refusal net = (place_of refusal ≡ place) × Stands refusal net

-- when each refusal of a network comes: its condition holds, and none of those above it
abbrev pub RefusesNetwork : NetRefusal → Network → Type 0
RefusesNetwork (AddressTwice one two address) net = IsLeastNamedPair (λ a b. a ≤ b) (HaveOneAddress net) net one two address
RefusesNetwork (PrefixInTwoAreas one two dest) net =
    AddressesDiffer net × IsLeastNamedPair IsBlockAtMost (RunTwoAreas net) net one two dest
RefusesNetwork (BorderWithoutBackbone router) net = PassesAreas net × IsLowestNamed (LacksBackbone net) net router
RefusesNetwork (OspfCostSum sum) net = PassesBorders net × IsAbove MOST_COST (ospf_cost_sum net) sum
RefusesNetwork (IsisMetricSum sum) net = PassesOspfCosts net × IsAbove MOST_PATH_METRIC (isis_metric_sum net) sum
RefusesNetwork (SystemIdTwice one two) net =
    PassesIsisMetrics net × ((system : ℕ) × IsLeastNamedPair (λ a b. a ≤ b) (HaveOneSystem net) net one two system)
RefusesNetwork (StubMismatch one two area) net =
    PassesSystems net × IsLeastNamedPair (λ a b. a ≤ b) (DifferOnStub net) net one two area
RefusesNetwork _ net = ⊥

-- P holds of the network of configurations that are within the limits and have distinct names
pub record HoldsOfNetwork (configs : List Configuration) (P : Network → Type 0) : Type 0 where
  pub limits : IsWithinLimits configs
  pub net : Network
  pub network : IsNetworkOf configs net
  pub holds : P net

-- when each refusal comes: its condition holds, and none of those above it
abbrev pub Refuses : NetRefusal → List Configuration → Type 0
Refuses (Limit Routers number) configs = IsAbove MOST_ROUTERS (length configs) number
Refuses (Limit Interfaces number) configs =
    (length configs ≤ MOST_ROUTERS) × IsAbove MOST_UP_INTERFACES (all_up_interfaces configs) number
Refuses (Limit Dests number) configs =
    (length configs ≤ MOST_ROUTERS) × (all_up_interfaces configs ≤ MOST_UP_INTERFACES) × NameTooMany configs number
Refuses (TwoNames name) configs = IsWithinLimits configs × IsLeastDouble configs name
Refuses OutOfMemory configs = Unit {0}
Refuses refusal configs = HoldsOfNetwork configs (RefusesNetwork refusal)

-- the refusal carries the least name that two configurations have, or is want of memory
abbrev pub RefusesName : NetRefusal → List Configuration → Type 0
RefusesName (TwoNames name) configs = IsLeastDouble configs name
RefusesName OutOfMemory configs = Unit {0}
RefusesName _ configs = ⊥
