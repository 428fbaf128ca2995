-- The subnets of some up interfaces.
use Rattle.std.specs.Prelude.{◌≡◌, List, Contains}
use Rattle.net_addr.specs.Addresses.{Block}
use Rattle.network_survey.specs.Ports.{Port}

-- one of them is of the subnet
pub record IsSubnetOf (ports : List Port) (p : Block) : Type 0 where
  pub port : Port
  pub among : Contains ports port
  pub subnet : port.subnet ≡ p
