-- The best of some offers: every route of both protocols is one.
use Rattle.std.specs.Prelude.{◌≡◌, ℕ, ◌+◌, ◌≤◌}
use Rattle.walk_core.specs.Walks.{Arcs, LeastCost, FirstHop}

-- an offer is made at a router and asks a cost
abbrev pub Offers : Type 1
Offers = ℕ → ℕ → Type 0

-- what an offer costs at u in all: the least walk to where it is made, and what it asks
pub record OfferCosts (arc : Arcs) (offer : Offers) (u at cost : ℕ) : Type 0 where
  pub asks : ℕ
  pub walk : ℕ
  pub offered : offer at asks
  pub reached : LeastCost arc u at walk
  pub costs : walk + asks ≡ cost

-- the best cost at u: some offer costs it, and no offer costs less
pub record BestCost (arc : Arcs) (offer : Offers) (u cost : ℕ) : Type 0 where
  pub at : ℕ
  pub attained : OfferCosts arc offer u at cost
  pub least : (other less : ℕ) → OfferCosts arc offer u other less → cost ≤ less

-- a first hop from u towards an offer of the best cost
pub record BestHop (arc : Arcs) (offer : Offers) (u h : ℕ) : Type 0 where
  pub cost : ℕ
  pub best : BestCost arc offer u cost
  pub at : ℕ
  pub attained : OfferCosts arc offer u at cost
  pub hop : FirstHop arc u at h
