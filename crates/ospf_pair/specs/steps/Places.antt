-- What two networks have at one number.
use Rattle.std.specs.Prelude.{◌≡◌, ℕ, ◌↔◌, ◌⊎◌, List}
use Rattle.net_model.specs.Configuration.{Configuration}
use Rattle.net_model.specs.Lookups.{IsNamed}
use Rattle.net_model.specs.Network.{Network, HasConfiguration}
use Rattle.net_model.specs.Refusals.{IsBelow}
use Rattle.ospf_pair.specs.NetworkPairs.{NetworkPair}

-- the lesser of two names that differ, in byte order
abbrev pub IsLesserOf : List ℕ → List ℕ → List ℕ → Type 0
IsLesserOf one other name = ((name ≡ one) × IsBelow one other) ⊎ ((name ≡ other) × IsBelow other one)

-- both networks have this name at number u, or neither does
abbrev pub IsNamedAlikeAt : NetworkPair → ℕ → Type 0
IsNamedAlikeAt nets u = (name : List ℕ) → IsNamed nets.old name u ↔ IsNamed nets.new name u

-- a network has this name at number u, and where the other one has a name there, that comes after it
pub record HasLesser (net other : Network) (u : ℕ) (name : List ℕ) : Type 0 where
  pub named : IsNamed net name u
  pub before : (its : List ℕ) → IsNamed other its u → IsBelow name its

-- one of the networks has
abbrev pub IsLesserAt : NetworkPair → ℕ → List ℕ → Type 0
IsLesserAt nets u name = HasLesser nets.old nets.new u name ⊎ HasLesser nets.new nets.old u name

-- both networks have a router of number u, and P holds of its two configurations
pub record MeetsAt (P : Configuration → Configuration → Type 0) (nets : NetworkPair) (u : ℕ) : Type 0 where
  pub one : Configuration
  pub other : Configuration
  pub old : HasConfiguration nets.old u one
  pub new : HasConfiguration nets.new u other
  pub holds : P one other
