-- The prefixes that configurations name, as lists with repeats.
use Rattle.std.specs.Prelude.{if◌then◌else◌, List, ◌++◌, map, Option, None}
use Rattle.std.specs.List.{filter_map, flat_map}
use Rattle.net_addr.specs.Addresses.{Block}
use Rattle.net_model.specs.Configuration.{Configuration}
use Rattle.net_model.specs.declared.area.Range.{Range}
use Rattle.net_model.specs.declared.interface.Interface.{Interface}

-- the subnet of an interface that is up
abbrev pub subnet_if_up : Interface → Option Block
subnet_if_up i = if i.up then i.subnet else None

-- the prefixes of a configuration: first the subnets, then the ranges
abbrev pub own_dests : Configuration → List Block
own_dests c = filter_map subnet_if_up c.interfaces ++ map (λ (r : Range). r.dest) c.ranges

-- the prefixes of all configurations, one after the other
abbrev pub all_dests : List Configuration → List Block
all_dests configs = flat_map own_dests configs
