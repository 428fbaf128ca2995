-- The up interfaces of a network that share their subnets, as tests.
use Rattle.std.specs.Prelude.{Bool, ◌&&◌, ◌==◌, not, if◌then◌else◌, List, Option, None, Some}
use Rattle.std.specs.List.{list_any}
use Rattle.net_addr.specs.Addresses.{Block}
use Rattle.network_survey.specs.Ports.{Port}

-- an interface is no loopback, is of this one's subnet, and of another router
abbrev pub shares_end : Port → Port → Bool
shares_end port other =
    not other.interface.loopback && (not (other.router == port.router)
    && ((other.subnet.base == port.subnet.base) && (other.subnet.len == port.subnet.len)))

-- this one is no loopback, and one of these shares its subnet
abbrev pub is_shared_end : List Port → Port → Bool
is_shared_end ports port = not port.interface.loopback && list_any (shares_end port) ports

-- its subnet, where that is so
abbrev pub shared_by_end : List Port → Port → Option Block
shared_by_end ports port = if is_shared_end ports port then Some port.subnet else None
