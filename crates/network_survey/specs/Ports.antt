-- The up interfaces of a network, in their order.
use Rattle.std.specs.Prelude.{◌≡◌, ℕ, ◌<◌, List, Some, IsTrue, slice_get}
use Rattle.net_addr.specs.Addresses.{Block}
use Rattle.net_model.specs.Configuration.{Configuration}
use Rattle.net_model.specs.Network.{Network, HasConfiguration}
use Rattle.net_model.specs.declared.interface.Interface.{Interface}
use Rattle.network_survey.specs.Listings.{ListsAll}

-- an interface with its subnet, and where it stands: whose it is, and its place in the configuration
pub record Port : Type 0 where
  pub router : ℕ
  pub place : ℕ
  pub subnet : Block
  pub interface : Interface

-- it is an up interface of the network
pub record IsUpPort (net : Network) (port : Port) : Type 0 where
  pub config : Configuration
  pub router : HasConfiguration net port.router config
  pub at : slice_get config.interfaces port.place ≡ Some port.interface
  pub up : IsTrue port.interface.up
  pub subnet : port.interface.subnet ≡ Some port.subnet

-- interfaces come in the order of the routers, and those of one router in the order of its configuration
pub data StandsEarlier (one other : Port) : Type 0 where
  by_router : one.router < other.router → StandsEarlier one other
  by_place : one.router ≡ other.router → one.place < other.place → StandsEarlier one other

-- the up interfaces of which P holds, in their order
abbrev pub ListsUpPorts : (Port → Type 0) → List Port → Type 0
ListsUpPorts = ListsAll StandsEarlier
