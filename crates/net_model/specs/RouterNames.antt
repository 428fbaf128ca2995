-- The names of routers, and routers that clash by their names.
use Rattle.std.specs.Prelude.{ℕ, List, map}
use Rattle.net_model.specs.Configuration.{Configuration}
use Rattle.net_model.specs.Least.{IsLeastPair, IsLowest}
use Rattle.net_model.specs.Lookups.{IsNamed}
use Rattle.net_model.specs.Network.{Network}

-- the names of the routers of a network, in the order of their numbers
abbrev pub names_of : Network → List (List ℕ)
names_of net = map (λ (c : Configuration). c.name) net

-- the lowest router of which P holds has this name
pub record IsLowestNamed (P : ℕ → Type 0) (net : Network) (name : List ℕ) : Type 0 where
  pub router : ℕ
  pub lowest : IsLowest P router
  pub name_is : IsNamed net name router

-- the routers of the least pair that clashes have these names, and this is the least item that they clash in
pub record IsLeastNamedPair {A : Type 0} (AtMost : A → A → Type 0) (Clash : ℕ → ℕ → A → Type 0) (net : Network) (one two : List ℕ) (item : A) : Type 0 where
  pub first : ℕ
  pub second : ℕ
  pub pair : IsLeastPair AtMost Clash first second item
  pub one_is : IsNamed net one first
  pub two_is : IsNamed net two second
