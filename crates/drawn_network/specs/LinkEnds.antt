-- The links of a network: the subnets that interfaces of two routers or more share.
use Rattle.std.specs.Prelude.{ℕ, ◌↔◌, ◌==◌, ◌&&◌, not, Bool, if◌then◌else◌, List, [], ◌∷◌, length, map, take, drop}
use Rattle.std.specs.Prelude.{Option, Some, None, slice_index_or, Contains}
use Rattle.std.specs.List.{filter, flat_map, list_any}
use Rattle.std.specs.List.Sorted.{IsStrictlyIncreasing}
use Rattle.net_addr.specs.Addresses.{Block}
use Rattle.net_model.specs.Configuration.{Configuration}
use Rattle.net_model.specs.Network.{Network}
use Rattle.net_model.specs.declared.interface.Interface.{Interface}
use Rattle.order_core.specs.Rankings.{numbers_below}

-- an end of a link: a router, an interface of it, and the subnet of that
pub record LinkEnd : Type 0 where
  pub router : ℕ
  pub subnet : Block
  pub interface : Interface

-- the interfaces of router u
abbrev pub interfaces_at : Network → ℕ → List Interface
interfaces_at net u = slice_index_or (map (λ (c : Configuration). c.interfaces) net) u []

-- an interface of router u is an end of its subnet
abbrev pub end_in : ℕ → Interface → Option Block → List LinkEnd
end_in u i (Some p) = record { router = u; subnet = p; interface = i } ∷ []
end_in u i None = []

-- where it is up and no loopback
abbrev pub end_at : ℕ → Interface → List LinkEnd
end_at u i = if i.up && not i.loopback then end_in u i i.subnet else []

-- the ends at router u, in the order of its configuration
abbrev pub router_ends : Network → ℕ → List LinkEnd
router_ends net u = flat_map (end_at u) (interfaces_at net u)

-- all ends of a network, in the order of the routers
abbrev pub ends_of : Network → List LinkEnd
ends_of net = flat_map (router_ends net) (numbers_below (length net))

-- two ends are of one subnet
abbrev pub share_subnet : LinkEnd → LinkEnd → Bool
share_subnet e f = (e.subnet.base == f.subnet.base) && (e.subnet.len == f.subnet.len)

-- and of two routers
abbrev pub share_link : LinkEnd → LinkEnd → Bool
share_link e f = share_subnet e f && not (e.router == f.router)

-- a link: the ends of a subnet, in their order
abbrev pub Link : Type 0
Link = List LinkEnd

-- the link that begins with the first of some ends, where none before them is of its subnet and another router shares it
abbrev pub link_begun : List LinkEnd → List LinkEnd → List Link
link_begun before [] = []
link_begun before (e ∷ rest) =
    if not (list_any (share_subnet e) before) && list_any (share_link e) rest then (e ∷ filter (share_subnet e) rest) ∷ [] else []

-- the links of some ends, in the order of their first ends
abbrev pub links_among : List LinkEnd → List Link
links_among ends = flat_map (λ k. link_begun (take k ends) (drop k ends)) (numbers_below (length ends))

-- the links of a network
abbrev pub links_of : Network → List Link
links_of net = links_among (ends_of net)

-- the area of an interface, if it has one
abbrev pub area_listed : Option ℕ → List ℕ
area_listed (Some n) = n ∷ []
area_listed None = []

-- the areas of the ends of some links, end by end
abbrev pub areas_along : List Link → List ℕ
areas_along links = flat_map (λ link. flat_map (λ (e : LinkEnd). area_listed e.interface.area) link) links

-- the same each once, ascending
pub record AreLinkAreas (links : List Link) (areas : List ℕ) : Type 0 where
  pub exact : (n : ℕ) → Contains areas n ↔ Contains (areas_along links) n
  pub ascending : IsStrictlyIncreasing areas
