-- The configurations of a network with a link down: its interfaces aren't up, and nothing else differs.
use Rattle.std.specs.Prelude.{◌≢◌, Bool, false, ◌&&◌, ◌==◌, not, List, map, Option, None, Some}
use Rattle.net_addr.specs.Addresses.{Block}
use Rattle.net_model.specs.Configuration.{Configuration}
use Rattle.net_model.specs.Network.{Network}
use Rattle.net_model.specs.Refusals.{MakeNetwork, Refuses}
use Rattle.net_model.specs.declared.interface.Interface.{Interface}
use Rattle.net_model.specs.declared.refusal.NetRefusal.{NetRefusal}
use Rattle.net_model.specs.declared.refusal.NetRefusal.TheVariants.{OutOfMemory}

-- there is a subnet, and it is this one
abbrev pub is_link_block : Block → Option Block → Bool
is_link_block p None = false
is_link_block p (Some q) = (q.base == p.base) && (q.len == p.len)

-- an interface is of a link: it has the link's subnet and is no loopback
abbrev pub is_on_link : Block → Interface → Bool
is_on_link p i = not i.loopback && is_link_block p i.subnet

-- it isn't up where it is of the link
abbrev pub shut_interface : Block → Interface → Interface
shut_interface p i = record i { up = i.up && not (is_on_link p i) }

-- so a router's interfaces
abbrev pub shut_router : Block → Configuration → Configuration
shut_router p c = record c { interfaces = map (shut_interface p) c.interfaces }

-- and those of all routers
abbrev pub shut_down : Block → List Configuration → List Configuration
shut_down p configs = map (shut_router p) configs

-- the configurations with the link down make a network: these very ones, in their order
abbrev pub StandsWithout : Network → Block → Type 0
StandsWithout net p = MakeNetwork (shut_down p net) (shut_down p net)

-- they make none, and this is why
pub record IsRefusedWithout (net : Network) (p : Block) (refusal : NetRefusal) : Type 0 where
  pub refuses : Refuses refusal (shut_down p net)
  pub told : refusal ≢ OutOfMemory
