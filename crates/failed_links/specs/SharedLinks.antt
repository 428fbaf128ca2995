-- The links of a network: the subnets that up interfaces of two or more routers share, none a loopback.
use Rattle.std.specs.Prelude.{◌≡◌, ◌≢◌, ◌↔◌, ℕ, false, List, Some, AllPairs, Contains}
use Rattle.net_addr.specs.Addresses.{Block}
use Rattle.net_model.specs.Least.{IsBlockAtMost}
use Rattle.net_model.specs.Network.{Network, UpInterface}
use Rattle.net_model.specs.declared.interface.Interface.{Interface}

-- router u has an up interface of the subnet that is no loopback
pub record MeetsLink (net : Network) (p : Block) (u : ℕ) : Type 0 where
  pub interface : Interface
  pub up : UpInterface net u interface
  pub wired : interface.loopback ≡ false
  pub subnet : interface.subnet ≡ Some p

-- a link: two routers or more have one
pub record IsSharedLink (net : Network) (p : Block) : Type 0 where
  pub one : ℕ
  pub other : ℕ
  pub apart : other ≢ one
  pub one_meets : MeetsLink net p one
  pub other_meets : MeetsLink net p other

-- exactly the links of a network, ascending, each once
pub record ListsLinks (net : Network) (links : List Block) : Type 0 where
  pub exact : (p : Block) → Contains links p ↔ IsSharedLink net p
  pub ascending : AllPairs IsBlockAtMost links
  pub once : AllPairs (λ (p q : Block). p ≢ q) links
