-- How many subnets a network has, and how many of them are links between routers.
use Rattle.std.specs.Prelude.{◌≢◌, ℕ}
use Rattle.net_addr.specs.Addresses.{Block}
use Rattle.net_model.specs.Network.{Network, Connected}

-- a router has an up interface of the subnet
pub record IsSubnet (net : Network) (p : Block) : Type 0 where
  pub router : ℕ
  pub connected : Connected net router p

-- two routers or more have one
pub record IsSharedSubnet (net : Network) (p : Block) : Type 0 where
  pub one : ℕ
  pub other : ℕ
  pub apart : other ≢ one
  pub one_connected : Connected net one p
  pub other_connected : Connected net other p
