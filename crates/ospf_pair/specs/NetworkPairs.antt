-- Two networks of the same routers, told by their names: as they are, and as they are to be by a second OSPF process.
use Rattle.std.specs.Prelude.{ℕ, List, ◌⊎◌, ◌↔◌}
use Rattle.net_model.specs.Configuration.{Configuration}
use Rattle.net_model.specs.Lookups.{IsNamed}
use Rattle.net_model.specs.Network.{Network}

-- the network as it is, and as it is to be
pub record NetworkPair : Type 0 where
  pub old : Network
  pub new : Network

abbrev pub network_pair : Network → Network → NetworkPair
network_pair old new = record { old = old; new = new }

-- the network has a router of this name
abbrev pub HasRouter : Network → List ℕ → Type 0
HasRouter net name = (u : ℕ) × IsNamed net name u

-- a router of this name stands in one of the two networks alone
abbrev pub StandsInOne : NetworkPair → List ℕ → Type 0
StandsInOne nets name =
    (HasRouter nets.old name × (HasRouter nets.new name → ⊥)) ⊎ ((HasRouter nets.old name → ⊥) × HasRouter nets.new name)

-- the two networks have the same routers: by their numbers they have the same names
abbrev pub HaveSameRouters : NetworkPair → Type 0
HaveSameRouters nets = (name : List ℕ) (u : ℕ) → IsNamed nets.old name u ↔ IsNamed nets.new name u

-- the router of this name stands in both networks, and P holds of its old and its new configuration
pub record RouterMeets (P : Configuration → Configuration → Type 0) (nets : NetworkPair) (name : List ℕ) : Type 0 where
  pub old_router : ℕ
  pub new_router : ℕ
  pub old : IsNamed nets.old name old_router
  pub new : IsNamed nets.new name new_router
  pub holds : P old.config new.config

-- P holds of no router
abbrev pub NoRouterMeets : (Configuration → Configuration → Type 0) → NetworkPair → Type 0
NoRouterMeets P nets = (name : List ℕ) → RouterMeets P nets name → ⊥
