-- Two routers' interfaces that make them adjacent.
use Rattle.std.specs.Prelude.{◌≡◌, ℕ, false, Option, IsTrue, min}
use Rattle.net_model.specs.Least.{better_by}
use Rattle.net_model.specs.Network.{RunsIn}
use Rattle.net_model.specs.declared.interface.Interface.{Interface}
use Rattle.net_model.specs.declared.zone.Zone.{Zone}

-- an interface may take part in an adjacency of the zone: it's up, no loopback, and forms adjacencies there
pub record IsLink (zone : Zone) (i : Interface) : Type 0 where
  pub up : IsTrue i.up
  pub link : i.loopback ≡ false
  pub runs : RunsIn zone i

-- the lower of two numbers, or the one that there is
abbrev pub lower_of : Option ℕ → Option ℕ → Option ℕ
lower_of = better_by min
