-- Lists of routers and of areas, as far as they were looked at.
use Rattle.std.specs.Prelude.{◌≡◌, ℕ, ◌<◌, Bool, if◌then◌else◌, List, [], ◌∷◌, ◌++◌, Option, None}
use Rattle.net_model.specs.declared.interface.Interface.{Interface}

-- the area of an interface that is up
abbrev pub area_if_up : Interface → Option ℕ
area_if_up i = if i.up then i.area else None

-- the router stands behind the others, where it is told
abbrev pub AddsIf : List ℕ → List ℕ → ℕ → Bool → Type 0
AddsIf old new router told = new ≡ old ++ (if told then router ∷ [] else [])

-- a router below n of which P holds
pub record IsRouterBelow (P : ℕ → Type 0) (n router : ℕ) : Type 0 where
  pub below : router < n
  pub holds : P router
