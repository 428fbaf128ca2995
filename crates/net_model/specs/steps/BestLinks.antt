-- Interfaces that join their routers, and the best of them.
use Rattle.std.specs.Prelude.{◌≡◌, ℕ, ◌≤◌, List, Option, Some, Any}
use Rattle.net_addr.specs.Addresses.{Block}
use Rattle.net_model.specs.Least.{IsBest}
use Rattle.net_model.specs.Network.{cost_in}
use Rattle.net_model.specs.declared.interface.Interface.{Interface}
use Rattle.net_model.specs.declared.zone.Zone.{Zone}
use Rattle.net_model.specs.Links.{IsLink}

-- two interfaces have one subnet
pub record ShareSubnet (i j : Interface) : Type 0 where
  pub subnet : Block
  pub near : i.subnet ≡ Some subnet
  pub far : j.subnet ≡ Some subnet

-- two interfaces make their routers adjacent in the zone
pub record Joins (zone : Zone) (i j : Interface) : Type 0 where
  pub near : IsLink zone i
  pub far : IsLink zone j
  pub share : ShareSubnet i j

-- the interface costs this, and joins one of the others
abbrev pub OffersCost : Zone → List Interface → ℕ → Interface → Type 0
OffersCost zone fars cost i = (cost_in zone i ≡ cost) × Any (Joins zone i) fars

-- the least cost of an interface of the first list that joins one of the second, if there is one
abbrev pub BestLink : Zone → List Interface → List Interface → Option ℕ → Type 0
BestLink zone nears fars = IsBest (λ a b. a ≤ b) (λ cost. Any (OffersCost zone fars cost) nears)
