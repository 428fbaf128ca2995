-- The subnets of interfaces that originate routes.
use Rattle.std.specs.Prelude.{if◌then◌else◌, ◌&&◌, ◌||◌, is_some, List, Option, None}
use Rattle.std.specs.List.{filter_map, flat_map}
use Rattle.net_addr.specs.Addresses.{Block}
use Rattle.net_model.specs.Configuration.{Configuration}
use Rattle.net_model.specs.declared.interface.Interface.{Interface}

-- the subnet of an interface that is up and runs OSPF or a level of IS-IS
abbrev pub originated_subnet : Interface → Option Block
originated_subnet i = if i.up && (is_some i.area || i.level1 || i.level2) then i.subnet else None

-- those of the interfaces of all routers
abbrev pub all_originated : List Configuration → List Block
all_originated net = flat_map (λ (c : Configuration). filter_map originated_subnet c.interfaces) net
