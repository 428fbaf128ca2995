-- Interfaces that stand out: OSPF or IS-IS sends on them, and nobody is there.
use Rattle.std.specs.Prelude.{◌≡◌, ◌≢◌, ℕ, false, IsSome}
use Rattle.net_model.specs.Links.{IsLink}
use Rattle.net_model.specs.Network.{Network, Connected}
use Rattle.net_model.specs.declared.zone.Zone.{Zone}
use Rattle.net_model.specs.declared.zone.Zone.TheVariants.{Area}
use Rattle.network_survey.specs.Ports.{Port, IsUpPort}

-- another router has an up interface of the subnet
pub record IsShared (net : Network) (port : Port) : Type 0 where
  pub other : ℕ
  pub apart : other ≢ port.router
  pub connected : Connected net other port.subnet

-- another router has an up interface of the subnet that may take part in adjacencies of the zone
pub record HasPeer (net : Network) (zone : Zone) (port : Port) : Type 0 where
  pub peer : Port
  pub is : IsUpPort net peer
  pub apart : peer.router ≢ port.router
  pub subnet : peer.subnet ≡ port.subnet
  pub link : IsLink zone peer.interface

-- an up interface, no loopback and not passive, runs OSPF, and no other router has an up interface of its subnet
pub record IsHalf (net : Network) (port : Port) : Type 0 where
  pub is : IsUpPort net port
  pub link : port.interface.loopback ≡ false
  pub runs : IsSome port.interface.area
  pub active : port.interface.ospf_passive ≡ false
  pub alone : IsShared net port → ⊥

-- several routers have an up interface of the subnet, and this one alone may take part in adjacencies of the zone there
pub record IsOneSided (net : Network) (zone : Zone) (port : Port) : Type 0 where
  pub is : IsUpPort net port
  pub link : IsLink zone port.interface
  pub shared : IsShared net port
  pub alone : HasPeer net zone port → ⊥

-- so in its OSPF area
pub record IsOneSidedInArea (net : Network) (port : Port) : Type 0 where
  pub area : ℕ
  pub one_sided : IsOneSided net (Area area) port
