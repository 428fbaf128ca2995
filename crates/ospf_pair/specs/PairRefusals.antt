-- Which two networks make a pair, and why two make none.
use Rattle.std.specs.Prelude.{ℕ, List}
use Rattle.net_model.specs.Refusals.{IsBelow}
use Rattle.ospf_pair.specs.NetworkPairs.{NetworkPair, StandsInOne, HaveSameRouters, RouterMeets, NoRouterMeets}
use Rattle.ospf_pair.specs.RouterConditions.{HaveOtherInterfaces, RunsIsis, HasProcessClash, IsNotIdle}
use Rattle.ospf_pair.specs.declared.refusal.PairRefusal.{PairRefusal}
use Rattle.ospf_pair.specs.declared.refusal.PairRefusal.TheVariants.{RouterMissing, InterfacesDiffer, HasIsis, ProcessClash, NotIdle, OutOfMemory}

-- the least name, in byte order, of which P holds
pub record IsLeastName (P : List ℕ → Type 0) (name : List ℕ) : Type 0 where
  pub holds : P name
  pub least : (other : List ℕ) → P other → IsBelow other name → ⊥

-- no router is missing, nor has other interfaces
abbrev pub PassInterfaces : NetworkPair → Type 0
PassInterfaces nets = HaveSameRouters nets × NoRouterMeets HaveOtherInterfaces nets

-- nor runs IS-IS
abbrev pub PassIsis : NetworkPair → Type 0
PassIsis nets = PassInterfaces nets × NoRouterMeets RunsIsis nets

-- nor has processes that clash
abbrev pub PassProcesses : NetworkPair → Type 0
PassProcesses nets = PassIsis nets × NoRouterMeets HasProcessClash nets

-- two networks make a pair: nor is the new process of a router at work
abbrev pub MakePair : NetworkPair → Type 0
MakePair nets = PassProcesses nets × NoRouterMeets IsNotIdle nets

-- when each refusal comes: for the least name of which its condition holds, where none above it holds of any router
abbrev pub RefusesPair : PairRefusal → NetworkPair → Type 0
RefusesPair (RouterMissing name) nets = IsLeastName (StandsInOne nets) name
RefusesPair (InterfacesDiffer name) nets = HaveSameRouters nets × IsLeastName (RouterMeets HaveOtherInterfaces nets) name
RefusesPair (HasIsis name) nets = PassInterfaces nets × IsLeastName (RouterMeets RunsIsis nets) name
RefusesPair (ProcessClash name) nets = PassIsis nets × IsLeastName (RouterMeets HasProcessClash nets) name
RefusesPair (NotIdle name) nets = PassProcesses nets × IsLeastName (RouterMeets IsNotIdle nets) name
RefusesPair OutOfMemory nets = Unit {0}
