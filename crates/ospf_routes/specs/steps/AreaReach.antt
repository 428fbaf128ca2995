-- The least walks of all areas, by the place of the area among them, which is its number as a zone of routes.
use Rattle.std.specs.Prelude.{◌≡◌, ℕ, List, [], map, slice_index_or}
use Rattle.net_model.specs.Network.{Network, IsBorderRouter}
use Rattle.walk_core.specs.Reach.{Reach}
use Rattle.ospf_routes.specs.declared.areas.AreaWalks.{AreaWalks}

-- the least walks of each area
abbrev pub all_walks : List AreaWalks → List (List Reach)
all_walks areas = map (λ area. area.walks.value) areas

-- the least walks from router u in the area at a place
abbrev pub area_reach : List AreaWalks → ℕ → ℕ → Reach
area_reach areas u zone = slice_index_or (slice_index_or (all_walks areas) zone []) u (record { distances = []; hops = [] })

-- v is this router, which is a border router
pub record IsThisBorder (net : Network) (u v : ℕ) : Type 0 where
  pub this : v ≡ u
  pub border : IsBorderRouter net v
