-- The areas that a network has, as zones.
use Rattle.std.specs.Prelude.{◌≡◌, ◌⊎◌, ℕ, List}
use Rattle.net_model.specs.Network.{Network, InArea}
use Rattle.net_model.specs.declared.zone.Zone.{Zone}
use Rattle.net_model.specs.declared.zone.Zone.TheVariants.{Area}
use Rattle.ospf_routes.specs.Lists.{Exactly}

-- a network has an area: the backbone, and each that one of its routers is in
abbrev pub IsAreaOf : Network → ℕ → Type 0
IsAreaOf net n = (n ≡ 0) ⊎ ((u : ℕ) × InArea net u n)

-- the zone of an area that the network has
pub record IsAreaZone (net : Network) (zone : Zone) : Type 0 where
  pub number : ℕ
  pub is : zone ≡ Area number
  pub area : IsAreaOf net number

-- these are the zones of all areas of the network
abbrev pub AreAreaZones : Network → List Zone → Type 0
AreAreaZones net = Exactly (IsAreaZone net)
