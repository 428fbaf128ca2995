use Rattle.std.proofs.Common.{[], take}
use Rattle.walk_core.specs.steps.Adding.{AddsNumbers, SomeLeadsTo}
use Rattle.walk_core.proofs.OfferLaws.{IsHopBelow}
use Rattle.walk_core.proofs.walks.LeastWalks.hops_towards.Given as goal

abbrev pub invariant-loop-offer : goal.invariant-loop-offer
invariant-loop-offer l = AddsNumbers (SomeLeadsTo (IsHopBelow l.self l.cost l.count) (take l.offer-index l.offers)) [] l.hops.items
