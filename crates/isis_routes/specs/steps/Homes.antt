-- The routers at which prefixes are connected.
use Rattle.std.specs.Prelude.{◌≡◌, ℕ, List, Some, IsTrue}
use Rattle.net_addr.specs.Addresses.{Block}
use Rattle.net_model.specs.Network.{Network, Connected}
use Rattle.net_model.specs.declared.interface.Interface.{Interface}
use Rattle.route_tables.specs.Lists.{Exactly}
use Rattle.isis_routes.specs.declared.homes.Home.{Home}

-- the interface of router w is up, and its subnet is the prefix of h, which names w
pub record IsOwnSubnet (i : Interface) (w : ℕ) (h : Home) : Type 0 where
  pub up : IsTrue i.up
  pub subnet : i.subnet ≡ Some h.dest
  pub router : h.router ≡ w

-- h names router u as a home of p
pub record IsHomeOf (p : Block) (h : Home) (u : ℕ) : Type 0 where
  pub dest : h.dest ≡ p
  pub router : h.router ≡ u

-- these are the connected prefixes of all routers
abbrev pub AreHomes : Network → List Home → Type 0
AreHomes net homes = Exactly (λ (h : Home). Connected net h.router h.dest) homes

-- p is connected at these routers, and at no others
abbrev pub AreRoutersAt : Network → Block → List ℕ → Type 0
AreRoutersAt net p routers = Exactly (λ (u : ℕ). Connected net u p) routers
