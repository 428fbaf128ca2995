-- What is told of each router, and routers that stand out.
use Rattle.std.specs.Prelude.{ℕ, ◌<◌, Bool, List, ◌||◌, ◌&&◌, is_some, IsTrue, Any, count_by}
use Rattle.net_model.specs.Configuration.{Configuration}
use Rattle.net_model.specs.Network.{Network, HasConfiguration, RunsArea}
use Rattle.net_model.specs.OffStarts.{IsOffStart}
use Rattle.net_model.specs.declared.interface.Interface.{Interface}
use Rattle.network_survey.specs.Listings.{ListsAll}

-- an interface is up and runs OSPF
abbrev pub runs_ospf : Interface → Bool
runs_ospf i = i.up && is_some i.area

-- an interface is up and runs a level of IS-IS
abbrev pub runs_some_level : Interface → Bool
runs_some_level i = i.up && (i.level1 || i.level2)

-- how many interfaces of a router are up and run OSPF
abbrev pub ospf_interfaces : Configuration → ℕ
ospf_interfaces c = count_by runs_ospf c.interfaces

-- how many run IS-IS
abbrev pub isis_interfaces : Configuration → ℕ
isis_interfaces c = count_by runs_some_level c.interfaces

-- the numbers of which P holds, ascending
abbrev pub ListsNumbers : (ℕ → Type 0) → List ℕ → Type 0
ListsNumbers = ListsAll (λ (m n : ℕ). m < n)

-- an up interface of the router runs OSPF in the area
abbrev pub HasInterfaceInArea : Configuration → ℕ → Type 0
HasInterfaceInArea c area = Any (RunsArea area) c.interfaces

-- the areas of a router's up interfaces, ascending
abbrev pub ListsAreas : Configuration → List ℕ → Type 0
ListsAreas c = ListsNumbers (HasInterfaceInArea c)

-- router u is of this sort
pub record IsRouterOf (Sort : Configuration → Type 0) (net : Network) (u : ℕ) : Type 0 where
  pub config : Configuration
  pub router : HasConfiguration net u config
  pub sort : Sort config

-- no interface of the router is up and runs OSPF
abbrev pub LacksOspf : Configuration → Type 0
LacksOspf c = Any (λ i. IsTrue (runs_ospf i)) c.interfaces → ⊥

-- router u has no up interface that runs OSPF
abbrev pub IsSilent : Network → ℕ → Type 0
IsSilent = IsRouterOf LacksOspf

-- router u isn't where a migration starts: it has OSPF at the greatest distance, or IS-IS at another
abbrev pub IsOff : Network → ℕ → Type 0
IsOff = IsRouterOf IsOffStart
