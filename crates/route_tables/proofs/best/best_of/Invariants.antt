use Rattle.std.proofs.Common.{take}
use Rattle.route_tables.specs.steps.BestSoFar.{IsBestSoFar}
use Rattle.route_tables.proofs.best.best_of.Given as goal

abbrev pub invariant-loop-offer : goal.invariant-loop-offer
invariant-loop-offer l = IsBestSoFar l.walks (take l.offer-index l.offers) l.best
