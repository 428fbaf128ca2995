-- The interfaces of routers that may take part in an adjacency, as links.
use Rattle.std.specs.Prelude.{◌≡◌, ◌↔◌, ℕ, List, Option, Some, Contains, Any}
use Rattle.net_model.specs.Links.{IsLink}
use Rattle.net_model.specs.Network.{Network, HasConfiguration, cost_in}
use Rattle.net_model.specs.Configuration.{Configuration}
use Rattle.net_model.specs.declared.interface.Interface.{Interface}
use Rattle.net_model.specs.declared.zone.Zone.{Zone}
use Rattle.zone_graph.specs.declared.links.Link.{Link}

-- an interface that may take part in an adjacency of the zone, as a link
pub record IsLinkOf (zone : Zone) (i : Interface) (link : Link) : Type 0 where
  pub is : IsLink zone i
  pub subnet : i.subnet ≡ Some link.subnet
  pub costs : cost_in zone i ≡ link.cost

-- the link of an interface, if it has one
abbrev pub IsLinkAt : Zone → Interface → Option Link → Type 0
IsLinkAt zone i found = (link : Link) → (found ≡ Some link) ↔ IsLinkOf zone i link

-- the links are those of the interfaces
abbrev pub AreLinksOf : Zone → List Interface → List Link → Type 0
AreLinksOf zone interfaces links = (link : Link) → Contains links link ↔ Any (λ i. IsLinkOf zone i link) interfaces

-- these are the links of router u
abbrev pub AreRouterLinks : Network → Zone → ℕ → List Link → Type 0
AreRouterLinks net zone u links = (c : Configuration) → HasConfiguration net u c → AreLinksOf zone c.interfaces links
