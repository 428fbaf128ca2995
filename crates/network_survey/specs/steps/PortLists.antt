-- Up interfaces that come before a place of a router, and those among some of which P holds.
use Rattle.std.specs.Prelude.{◌≡◌, ◌↔◌, ℕ, ◌<◌, ◌⊎◌, Bool, true, List, [], ◌∷◌, Option, Some, AllPairs, Contains}
use Rattle.net_addr.specs.Addresses.{Block}
use Rattle.net_model.specs.Network.{Network}
use Rattle.net_model.specs.declared.interface.Interface.{Interface}
use Rattle.network_survey.specs.Ports.{Port, IsUpPort, StandsEarlier}

-- an up interface of a router before router u, or of router u at a place before k
pub record IsPortTo (net : Network) (u k : ℕ) (port : Port) : Type 0 where
  pub is : IsUpPort net port
  pub before : (port.router < u) ⊎ ((port.router ≡ u) × (port.place < k))

-- one of these ports, of which P holds
pub record IsSelected (P : Port → Type 0) (ports : List Port) (port : Port) : Type 0 where
  pub among : Contains ports port
  pub holds : P port

-- those of these ports of which P holds, in their order
pub record Selects (P : Port → Type 0) (ports found : List Port) : Type 0 where
  pub exact : (port : Port) → Contains found port ↔ IsSelected P ports port
  pub ascending : AllPairs StandsEarlier ports → AllPairs StandsEarlier found

-- the interface i at place k of router u as a port: one where it is up and has a subnet
abbrev pub port_where : ℕ → ℕ → Interface → Bool → Option Block → List Port
port_where u k i true (Some p) = record { router = u; place = k; subnet = p; interface = i } ∷ []
port_where u k i _ _ = []

-- where the interface says so
abbrev pub port_at : ℕ → ℕ → Interface → List Port
port_at u k i = port_where u k i i.up i.subnet
