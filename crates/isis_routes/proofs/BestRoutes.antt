-- The best of offers that are the same, or that ask more by a constant.
use Rattle.std.proofs.Common.{ℕ, List}
use Rattle.walk_core.specs.Walks.{Arcs}
use Rattle.walk_core.specs.Offers.{Offers, BestCost, BestHop}
use Rattle.walk_core.proofs.WalkLaws.{SameArcs, SameOffers, best_cost_over}
use Rattle.route_tables.proofs.AlikeRoutes.{AskAlike, alike_cost, alike_hop, alike_turned}
use Rattle.route_tables.proofs.BestRoutes.{hops_same}
use Rattle.isis_routes.specs.steps.Routing.{HasBest, IsRouteToBest}

over_same : (arc : Arcs) → SameArcs arc arc
over_same arc a b c = (λ is. is, λ is. is)

-- the best cost of the same offers is the same
pub same_costs : (arc : Arcs) (one other : Offers) (u c : ℕ) → SameOffers one other → BestCost arc one u c → BestCost arc other u c
same_costs arc one other u c same best = best_cost_over (over_same arc) same best

pub like_best : (arc : Arcs) (one other : Offers) (u : ℕ) → AskAlike one other → HasBest arc one u → HasBest arc other u
like_best arc one other u alike has = let best = alike_cost arc u one other alike has.cost has.best in record { cost = best.0; best = best.1 }

pub like_route : (arc : Arcs) (one other : Offers) (u : ℕ) (hops : List ℕ) → AskAlike one other → IsRouteToBest arc one u hops → IsRouteToBest arc other u hops
like_route arc one other u hops alike route = record {
  is = like_best arc one other u alike route.is;
  hops_are = hops_same (BestHop arc one u) (BestHop arc other u) hops
      (λ h. (alike_hop arc u one other alike h, alike_hop arc u other one (alike_turned alike) h)) route.hops_are;
}
