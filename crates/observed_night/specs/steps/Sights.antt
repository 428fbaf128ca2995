-- What two networks have at one number.
use Rattle.std.specs.Prelude.{◌≡◌, ℕ, ◌↔◌, List}
use Rattle.net_model.specs.Configuration.{Configuration}
use Rattle.net_model.specs.Lookups.{IsNamed}
use Rattle.net_model.specs.Network.{Network, HasConfiguration}
use Rattle.net_model.specs.Refusals.{IsBelow}
use Rattle.observed_night.specs.Parts.{AreAlikeButDistances, DifferFirstIn}
use Rattle.observed_night.specs.declared.part.Part.{Part}
use Rattle.observed_night.specs.declared.part.Part.TheVariants.{Name}

-- of two configurations the lesser name is told, or of one name the first part that they differ in
pub data DifferBy (c d : Configuration) (name : List ℕ) : Part → Type 0 where
  lesser : name ≡ c.name → IsBelow c.name d.name → DifferBy c d name Name
  greater : name ≡ d.name → IsBelow d.name c.name → DifferBy c d name Name
  part_of : (part : Part) → name ≡ c.name → c.name ≡ d.name → DifferFirstIn c d part → DifferBy c d name part

-- a network has this name at number u, and where another one has a name there, that comes after it
abbrev pub StandsFirst : Network → Network → ℕ → List ℕ → Type 0
StandsFirst net other u name = IsNamed net name u × ((its : List ℕ) → IsNamed other its u → IsBelow name its)

-- so the networks differ at number u
pub data DifferAtNumber (before now : Network) (u : ℕ) (name : List ℕ) : Part → Type 0 where
  gone : StandsFirst before now u name → DifferAtNumber before now u name Name
  new : StandsFirst now before u name → DifferAtNumber before now u name Name
  by_part : (part : Part) (one : IsNamed before name u) (its : IsNamed now name u) → DifferFirstIn one.config its.config part →
      DifferAtNumber before now u name part

-- they don't: they have the same name at number u, or none, and its configurations are alike
pub record AreAlikeAt (before now : Network) (u : ℕ) : Type 0 where
  pub same : (name : List ℕ) → IsNamed before name u ↔ IsNamed now name u
  pub alike : (c d : Configuration) → HasConfiguration before u c → HasConfiguration now u d → AreAlikeButDistances c d
