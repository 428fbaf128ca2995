-- The laws of pairs of networks.
use Rattle.std.specs.Prelude.{◌≡◌, ◌≢◌, ℕ, ◌↔◌, length}
use Rattle.net_addr.specs.Addresses.{Block}
use Rattle.net_model.specs.Network.{Network, UpInterface, Connected}
use Rattle.net_model.specs.declared.interface.Interface.{Interface}
use Rattle.ospf_pair.specs.NetworkPairs.{NetworkPair}
use Rattle.ospf_pair.specs.PairRefusals.{MakePair, RefusesPair}
use Rattle.ospf_pair.specs.RouterConditions.{IsUpAlike}
use Rattle.ospf_pair.specs.declared.refusal.PairRefusal.{PairRefusal}
use Rattle.ospf_pair.specs.declared.refusal.PairRefusal.TheVariants.{OutOfMemory}

-- where two networks make a pair, only want of memory may refuse them
abbrev pub PairOrRefusalLaw : Type 0
PairOrRefusalLaw = (nets : NetworkPair) (refusal : PairRefusal) → MakePair nets → RefusesPair refusal nets → refusal ≡ OutOfMemory

-- besides want of memory one refusal at most stands
abbrev pub OnePairRefusalLaw : Type 0
OnePairRefusalLaw =
    (nets : NetworkPair) (one other : PairRefusal) → one ≢ OutOfMemory → other ≢ OutOfMemory →
    RefusesPair one nets → RefusesPair other nets → one ≡ other

-- router u of a network has an up interface alike
pub record HasUpAlike (net : Network) (u : ℕ) (i : Interface) : Type 0 where
  pub interface : Interface
  pub up : UpInterface net u interface
  pub alike : IsUpAlike i interface

-- the networks of a pair have as many routers, each router has alike up interfaces in both, and so the same connected prefixes
pub record AreOneNetwork (nets : NetworkPair) : Type 0 where
  pub routers : length nets.old ≡ length nets.new
  pub forth : (u : ℕ) (i : Interface) → UpInterface nets.old u i → HasUpAlike nets.new u i
  pub back : (u : ℕ) (i : Interface) → UpInterface nets.new u i → HasUpAlike nets.old u i
  pub connected : (u : ℕ) (p : Block) → Connected nets.old u p ↔ Connected nets.new u p

abbrev pub OneNetworkOfPairLaw : Type 0
OneNetworkOfPairLaw = (nets : NetworkPair) → MakePair nets → AreOneNetwork nets
