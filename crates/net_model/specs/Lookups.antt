-- What is asked of a network.
use Rattle.std.specs.Prelude.{◌≡◌, ℕ, ◌≤◌, List}
use Rattle.net_addr.specs.Addresses.{Block}
use Rattle.net_addr.specs.LongestMatches.{IsLongestMatch}
use Rattle.net_model.specs.Configuration.{Configuration}
use Rattle.net_model.specs.Network.{Network, HasConfiguration, Connected, Adjacent}
use Rattle.net_model.specs.declared.zone.Zone.{Zone}

-- the configuration at place u has this name
pub record IsNamed (net : Network) (name : List ℕ) (u : ℕ) : Type 0 where
  pub config : Configuration
  pub router : HasConfiguration net u config
  pub name_is : config.name ≡ name

-- the least cost at which router u is adjacent to router v in the zone
pub record LeastArc (net : Network) (zone : Zone) (u v cost : ℕ) : Type 0 where
  pub adjacent : Adjacent net zone u v cost
  pub least : (other : ℕ) → Adjacent net zone u v other → cost ≤ other

-- the longest prefix that is connected at router u and contains the address
abbrev pub LongestConnected : Network → ℕ → ℕ → Block → Type 0
LongestConnected net u = IsLongestMatch (Connected net u)
