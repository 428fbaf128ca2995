-- The routers of an area.
use Rattle.std.specs.Prelude.{◌≡◌, ◌↔◌, ℕ, Bool, false, List, IsTrue, slice_index_or}
use Rattle.net_model.specs.Network.{Network, InArea, IsBorderRouter}
use Rattle.ospf_routes.specs.steps.Places.{AreEach}

-- router u is flagged
abbrev pub IsMember : List Bool → ℕ → Type 0
IsMember members u = IsTrue (slice_index_or members u false)

-- the routers below m that are in area n are flagged, and no others
abbrev pub AreMembersBelow : Network → ℕ → ℕ → List Bool → Type 0
AreMembersBelow net n = AreEach (λ (u : ℕ) (b : Bool). IsTrue b ↔ InArea net u n) false

-- router u is a border router in area n
pub record IsBorderIn (net : Network) (n u : ℕ) : Type 0 where
  pub inside : InArea net u n
  pub border : IsBorderRouter net u

-- v is this router, which is flagged and a border router
pub record IsThisBorderAmong (net : Network) (members : List Bool) (u v : ℕ) : Type 0 where
  pub this : v ≡ u
  pub member : IsMember members v
  pub border : IsBorderRouter net v
