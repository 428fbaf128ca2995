-- All that refuses the network of configurations.
use Rattle.std.specs.Prelude.{◌≢◌, ◌<◌, List, [], length}
use Rattle.net_model.specs.Configuration.{Configuration}
use Rattle.net_model.specs.Limits.{all_up_interfaces}
use Rattle.net_model.specs.Refusals.{HoldsOfNetwork, IsAbove, IsLeastDouble, MakeNetwork, NameTooMany, Stands, place_of}
use Rattle.net_model.specs.declared.bounds.TheConstants.{MOST_ROUTERS, MOST_UP_INTERFACES}
use Rattle.net_model.specs.declared.refusal.LimitWhat.TheVariants.{Routers, Interfaces, Dests}
use Rattle.net_model.specs.declared.refusal.NetRefusal.{NetRefusal}
use Rattle.net_model.specs.declared.refusal.NetRefusal.TheVariants.{Limit, TwoNames, OutOfMemory}
use Rattle.network_survey.specs.Listings.{ListsAll}
use Rattle.network_survey.specs.declared.refusals.Surveyed.{Surveyed}
use Rattle.network_survey.specs.declared.refusals.Surveyed.TheVariants.{Network, Refused}

-- the condition of a refusal holds, whatever others do; those of a network only where there is one: the configurations
-- are within the limits, and no two of them have one name
abbrev pub StandsFor : NetRefusal → List Configuration → Type 0
StandsFor (Limit Routers number) configs = IsAbove MOST_ROUTERS (length configs) number
StandsFor (Limit Interfaces number) configs = IsAbove MOST_UP_INTERFACES (all_up_interfaces configs) number
StandsFor (Limit Dests number) configs = NameTooMany configs number
StandsFor (TwoNames name) configs = IsLeastDouble configs name
StandsFor OutOfMemory configs = ⊥
StandsFor refusal configs = HoldsOfNetwork configs (Stands refusal)

-- one refusal comes before another in their order
abbrev pub IsRefusedEarlier : NetRefusal → NetRefusal → Type 0
IsRefusedEarlier one other = place_of one < place_of other

-- all refusals that stand, in their order
abbrev pub ListsRefusals : List Configuration → List NetRefusal → Type 0
ListsRefusals configs = ListsAll IsRefusedEarlier (λ (refusal : NetRefusal). StandsFor refusal configs)

-- configurations make this network, or these are all refusals that stand, one or more
abbrev pub IsSurveyed : List Configuration → Surveyed → Type 0
IsSurveyed configs (Network net) = MakeNetwork configs net
IsSurveyed configs (Refused found) = ListsRefusals configs found.items × (found.items ≢ [])
