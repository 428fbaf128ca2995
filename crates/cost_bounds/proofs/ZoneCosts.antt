-- Costs in a zone of a network, by what its routers weigh there.
use Rattle.std.proofs.Common.{◌≡◌, ℕ, ◌+◌, ◌≤◌, get_or, subst, arith}
use Rattle.net_model.specs.Network.{Network, Adjacent}
use Rattle.net_model.specs.declared.zone.Zone.{Zone}
use Rattle.walk_core.specs.Walks.{LeastCost}
use Rattle.walk_core.specs.Offers.{Offers, BestCost}
use Rattle.cost_bounds.proofs.SimpleWalks.{Reaches, CostBy, cost_by, one_cost, two_costs}
use Rattle.cost_bounds.proofs.ZoneSums.{weights, zone_sum, total_of_zone, adjacency_has_weights, adjacency_leads_back}

module _ (net : Network) (z : Zone) where
  -- a cost of a walk in the zone to v, and of what is asked there
  abbrev pub ZoneCost : ℕ → ℕ → Type 0
  ZoneCost v c = CostBy (Adjacent net z) (weights net z) v c

  -- a least walk, and what is asked where it ends: at most what that router weighs
  pub cost_of_offer : (u v d asks : ℕ) → LeastCost (Adjacent net z) u v d → asks ≤ get_or (weights net z) v 0 →
      ZoneCost v (d + asks)
  cost_of_offer u v d asks = cost_by (Adjacent net z) (weights net z) (adjacency_has_weights net z) u v d asks

  -- the best cost of offers that ask at most what their router weighs
  pub cost_of_best : (offer : Offers) (u c : ℕ) (best : BestCost (Adjacent net z) offer u c) →
      ((at asks : ℕ) → offer at asks → asks ≤ get_or (weights net z) at 0) → ZoneCost best.at c
  cost_of_best offer u c best light =
      let at = best.attained in
      subst (ZoneCost best.at) at.costs (cost_of_offer u best.at at.walk at.asks at.reached (light best.at at.asks at.offered))

  -- the least cost of a walk alone
  pub cost_of_walk : (u v d : ℕ) → LeastCost (Adjacent net z) u v d → ZoneCost v d
  cost_of_walk u v d least =
      let same : d + 0 ≡ d = omega arith in
      subst (ZoneCost v) same (cost_of_offer u v d 0 least (omega arith))

  pub within_zone : (v c : ℕ) → ZoneCost v c → c ≤ zone_sum net z
  within_zone v c by = omega (arith, total_of_zone net z, one_cost (Adjacent net z) (weights net z) v c by)

  pub both_within_zone : (v c w d : ℕ) → ZoneCost v c → ZoneCost w d → (Reaches (Adjacent net z) v w → ⊥) → c + d ≤ zone_sum net z
  both_within_zone v c w d one two apart =
      let back = adjacency_leads_back net z in
      omega (arith, total_of_zone net z, two_costs (Adjacent net z) back (weights net z) v c w d one two apart)
