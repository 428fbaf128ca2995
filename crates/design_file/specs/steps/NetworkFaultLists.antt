-- How the faults of a design for a network are gathered.
use Rattle.std.specs.Prelude.{◌&&◌, ◌++◌, List, [], ◌∷◌, Option, Some, None, Bool, bytes_eq, find, if◌then◌else◌, is_some}
use Rattle.std.specs.List.{list_any}
use Rattle.net_model.specs.Configuration.{Configuration}
use Rattle.net_model.specs.Network.{Network}
use Rattle.net_model.specs.declared.interface.Interface.{Interface}
use Rattle.design_file.specs.Faults.{fault}
use Rattle.ios_lines.specs.Words.{Word}
use Rattle.design_file.specs.Keys.{below}
use Rattle.design_file.specs.NetworkFaults.{router_path, interfaces_path}
use Rattle.design_file.specs.declared.design.Design.{Design}
use Rattle.design_file.specs.declared.design.DesignRouter.{DesignRouter}
use Rattle.design_file.specs.declared.design.DesignInterface.{DesignInterface}
use Rattle.design_file.specs.declared.fault.Fault.{Fault}
use Rattle.design_file.specs.declared.refusal.DesignKind.{DesignKind}
use Rattle.design_file.specs.declared.refusal.DesignKind.TheVariants.{UnknownRouter, UnknownInterface, AlreadyIsis}

-- the first configuration of this name
abbrev pub config_named : Word → Network → Option Configuration
config_named name net = find (λ (c : Configuration). bytes_eq c.name name) net

-- a fault where this isn't so
abbrev pub fault_unless : Bool → DesignKind → Word → List Fault
fault_unless good kind path = if good then [] else fault kind path ∷ []

-- an interface of this name has an address
abbrev pub has_addressed : Word → List Interface → Bool
has_addressed name interfaces = list_any (λ (i : Interface). bytes_eq i.name name && is_some i.subnet) interfaces

-- the faults of the interfaces that a design names of a router, whose paths are below this one
abbrev pub interfaces_faults : Word → List Interface → List DesignInterface → List Fault
interfaces_faults path interfaces [] = []
interfaces_faults path interfaces (named ∷ more) =
    fault_unless (has_addressed named.name interfaces) UnknownInterface (below path named.name) ++ interfaces_faults path interfaces more

-- the faults of a router that a design names, by its configuration
abbrev pub router_faults : Option Configuration → DesignRouter → List Fault
router_faults None router = fault UnknownRouter (router_path router.name) ∷ []
router_faults (Some config) router = interfaces_faults (interfaces_path router.name) config.interfaces router.interfaces

-- the faults of the routers that a design names
abbrev pub routers_faults : Network → List DesignRouter → List Fault
routers_faults net [] = []
routers_faults net (router ∷ more) = router_faults (config_named router.name net) router ++ routers_faults net more

-- the routers that have an IS-IS process
abbrev pub isis_fault : Configuration → List Fault
isis_fault config = if config.isis then fault AlreadyIsis (router_path config.name) ∷ [] else []

abbrev pub already_isis_faults : Network → List Fault
already_isis_faults [] = []
already_isis_faults (config ∷ more) = isis_fault config ++ already_isis_faults more

-- the faults of a design for a network
abbrev pub network_faults : Design → Network → List Fault
network_faults design net = routers_faults net design.routers ++ already_isis_faults net
