-- What is asked of one up interface beside all of them.
use Rattle.std.specs.Prelude.{◌≡◌, ◌≢◌, ℕ, false, List, IsSome, Any}
use Rattle.net_model.specs.Links.{IsLink}
use Rattle.net_model.specs.declared.zone.Zone.{Zone}
use Rattle.net_model.specs.declared.zone.Zone.TheVariants.{Area}
use Rattle.network_survey.specs.Ports.{Port}

-- the other is of another router, and of the same subnet
pub record FacesOther (port other : Port) : Type 0 where
  pub apart : other.router ≢ port.router
  pub subnet : other.subnet ≡ port.subnet

-- and it may take part in adjacencies of the zone
pub record FacesPeer (zone : Zone) (port other : Port) : Type 0 where
  pub faces : FacesOther port other
  pub link : IsLink zone other.interface

-- one of the ports faces this one
abbrev pub SeesOther : List Port → Port → Type 0
SeesOther ports port = Any (FacesOther port) ports

-- one of the ports is a peer of this one in the zone
abbrev pub SeesPeer : List Port → Zone → Port → Type 0
SeesPeer ports zone port = Any (FacesPeer zone port) ports

-- runs OSPF unpassively, is no loopback, and none of the ports faces it
pub record SeesNobody (ports : List Port) (port : Port) : Type 0 where
  pub link : port.interface.loopback ≡ false
  pub runs : IsSome port.interface.area
  pub active : port.interface.ospf_passive ≡ false
  pub alone : SeesOther ports port → ⊥

-- may take part in adjacencies of the zone, and of the ports that face it none does
pub record SeesNoPeer (ports : List Port) (zone : Zone) (port : Port) : Type 0 where
  pub link : IsLink zone port.interface
  pub shared : SeesOther ports port
  pub alone : SeesPeer ports zone port → ⊥

-- so in its OSPF area
pub record SeesNoPeerInArea (ports : List Port) (port : Port) : Type 0 where
  pub area : ℕ
  pub sees : SeesNoPeer ports (Area area) port
