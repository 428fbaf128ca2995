-- What two networks differ in, the one before a migration and the one of now: the least router by its name, and the first part
-- of its configuration.
use Rattle.std.specs.Prelude.{◌≡◌, ℕ, List, length}
use Rattle.net_model.specs.Configuration.{Configuration}
use Rattle.net_model.specs.Lookups.{IsNamed}
use Rattle.net_model.specs.Network.{Network, HasConfiguration}
use Rattle.net_model.specs.Refusals.{IsBelow}
use Rattle.observed_night.specs.Parts.{AreAlikeButDistances, DifferFirstIn}
use Rattle.observed_night.specs.declared.part.Part.{Part}
use Rattle.observed_night.specs.declared.part.Part.TheVariants.{Name}

-- no router of the network has this name
abbrev pub NamesNone : Network → List ℕ → Type 0
NamesNone net name = (u : ℕ) → IsNamed net name u → ⊥

-- the router of this name differs in a part: it stands in one of the networks alone, or it is the first part that its two
-- configurations differ in
pub data DiffersIn (before now : Network) (name : List ℕ) : Part → Type 0 where
  gone : (u : ℕ) → IsNamed before name u → NamesNone now name → DiffersIn before now name Name
  new : (u : ℕ) → IsNamed now name u → NamesNone before name → DiffersIn before now name Name
  other : (part : Part) (u v : ℕ) (one : IsNamed before name u) (its : IsNamed now name v) → DifferFirstIn one.config its.config part →
      DiffersIn before now name part

-- the least name of a router that differs, in byte order, and the part
pub record IsLeastDifference (before now : Network) (name : List ℕ) (part : Part) : Type 0 where
  pub differs : DiffersIn before now name part
  pub least : (other : List ℕ) (its : Part) → DiffersIn before now other its → IsBelow other name → ⊥

-- the networks are alike but for distances: they have the same routers, and the configurations of each are alike
pub record AreOneNight (before now : Network) : Type 0 where
  pub routers : length before ≡ length now
  pub alike : (u : ℕ) (c d : Configuration) → HasConfiguration before u c → HasConfiguration now u d → AreAlikeButDistances c d
