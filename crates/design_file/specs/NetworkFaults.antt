-- What is wrong in a design for a network.
use Rattle.std.specs.Prelude.{◌≡◌, ℕ, Contains, IsSome, IsTrue, codes}
use Rattle.net_model.specs.Configuration.{Configuration}
use Rattle.net_model.specs.Lookups.{IsNamed}
use Rattle.net_model.specs.Network.{Network, HasConfiguration}
use Rattle.net_model.specs.declared.interface.Interface.{Interface}
use Rattle.design_file.specs.Faults.{fault}
use Rattle.ios_lines.specs.Words.{Word}
use Rattle.design_file.specs.Keys.{below}
use Rattle.design_file.specs.declared.design.Design.{Design}
use Rattle.design_file.specs.declared.design.DesignRouter.{DesignRouter}
use Rattle.design_file.specs.declared.design.DesignInterface.{DesignInterface}
use Rattle.design_file.specs.declared.fault.Fault.{Fault}
use Rattle.design_file.specs.declared.refusal.DesignKind.TheVariants.{UnknownRouter, UnknownInterface, AlreadyIsis}

-- the paths of a router and of its interfaces
abbrev pub router_path : Word → Word
router_path name = below (codes "routers") name

abbrev pub interfaces_path : Word → Word
interfaces_path router = below (router_path router) (codes "interfaces")

-- a router has an interface of this name with an address
pub record HasAddressed (config : Configuration) (name : Word) : Type 0 where
  pub interface : Interface
  pub among : Contains config.interfaces interface
  pub name_is : interface.name ≡ name
  pub address : IsSome interface.subnet

-- what is wrong in a design for a network: it names a router that there isn't, or an interface that its router hasn't or that
-- has no address; or some router has an IS-IS process already, be it named or not
pub data IsNetworkFault (design : Design) (net : Network) (f : Fault) : Type 0 where
  no_router : (router : DesignRouter) → Contains design.routers router → ((u : ℕ) → IsNamed net router.name u → ⊥) →
      fault UnknownRouter (router_path router.name) ≡ f → IsNetworkFault design net f
  no_interface : (router : DesignRouter) (interface : DesignInterface) (u : ℕ) (config : Configuration) → Contains design.routers router →
      Contains router.interfaces interface → HasConfiguration net u config → config.name ≡ router.name →
      (HasAddressed config interface.name → ⊥) → fault UnknownInterface (below (interfaces_path router.name) interface.name) ≡ f →
      IsNetworkFault design net f
  has_isis : (u : ℕ) (config : Configuration) → HasConfiguration net u config → IsTrue config.isis →
      fault AlreadyIsis (router_path config.name) ≡ f → IsNetworkFault design net f
