-- Routers that aren't where a migration starts: OSPF below the greatest distance, IS-IS at it.
use Rattle.std.specs.Prelude.{◌≡◌, ◌≢◌, ℕ, ◌⊎◌, IsSome, IsTrue}
use Rattle.net_model.specs.Configuration.{Configuration}
use Rattle.net_model.specs.Least.{IsLowest}
use Rattle.net_model.specs.Network.{Network, HasConfiguration}
use Rattle.net_model.specs.declared.bounds.TheConstants.{MOST_DISTANCE}

-- a router has an OSPF process at the greatest distance, or IS-IS at another distance
abbrev pub IsOffStart : Configuration → Type 0
IsOffStart c =
    (IsSome c.process × (c.distances.ospf ≡ MOST_DISTANCE)) ⊎ (IsTrue c.isis × (c.distances.isis ≢ MOST_DISTANCE))

-- router u is such a router
pub record StartsOff (net : Network) (u : ℕ) : Type 0 where
  pub config : Configuration
  pub router : HasConfiguration net u config
  pub off : IsOffStart config

-- the lowest such router
abbrev pub IsLowestOffStart : Network → ℕ → Type 0
IsLowestOffStart net u = IsLowest (StartsOff net) u
