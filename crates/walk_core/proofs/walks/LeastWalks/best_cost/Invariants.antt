use Rattle.std.proofs.Common.{take}
use Rattle.walk_core.specs.BestOffers.{total_towards}
use Rattle.walk_core.specs.steps.Cheapest.{IsCheapestCost}
use Rattle.walk_core.proofs.walks.LeastWalks.best_cost.Given as goal

abbrev pub invariant-loop-offer : goal.invariant-loop-offer
invariant-loop-offer l = IsCheapestCost (total_towards l.self) (take l.offer-index l.offers) l.best
