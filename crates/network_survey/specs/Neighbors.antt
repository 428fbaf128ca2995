-- What it means that no interface stands out for the want of a neighbor.
use Rattle.std.specs.Prelude.{◌≡◌, ℕ}
use Rattle.net_model.specs.Links.{IsLink}
use Rattle.net_model.specs.Network.{Network, Adjacent, UpInterface}
use Rattle.net_model.specs.Refusals.{IsNetwork}
use Rattle.net_model.specs.declared.interface.Interface.{Interface}
use Rattle.net_model.specs.declared.zone.Zone.{Zone}
use Rattle.net_model.specs.declared.zone.Zone.TheVariants.{Area}
use Rattle.network_survey.specs.Interfaces.{IsHalf, IsOneSidedInArea}
use Rattle.network_survey.specs.Ports.{Port}

-- by this interface of router u there is a neighbor in the zone
pub record HasNeighborBy (net : Network) (zone : Zone) (u : ℕ) (i : Interface) : Type 0 where
  pub neighbor : ℕ
  pub cost : ℕ
  pub adjacent : Adjacent net zone u neighbor cost
  pub by_this : adjacent.near ≡ i

-- where no interface is half and none one-sided in its area, each that runs OSPF unpassively in an area, and is no
-- loopback, has a neighbor there
abbrev pub NeighborLaw : Type 0
NeighborLaw =
    (net : Network) → IsNetwork net → ((port : Port) → IsHalf net port → ⊥) → ((port : Port) → IsOneSidedInArea net port → ⊥) →
    (u : ℕ) (i : Interface) (area : ℕ) → UpInterface net u i → IsLink (Area area) i → HasNeighborBy net (Area area) u i
