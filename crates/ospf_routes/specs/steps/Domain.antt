-- A network with its areas.
use Rattle.std.specs.Prelude.{List}
use Rattle.net_model.specs.Network.{Network}
use Rattle.ospf_routes.specs.declared.areas.AreaWalks.{AreaWalks}

-- a network and its areas
pub record OspfDomain : Type 0 where
  pub net : Network
  pub areas : List AreaWalks
