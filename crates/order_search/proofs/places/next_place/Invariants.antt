use Rattle.std.proofs.Common.{◌≡◌, List, length}
use Rattle.order_core.specs.Pairs.{Pair}
use Rattle.order_search.specs.steps.Waiting.{places_of, IsUnder}
use Rattle.order_search.specs.steps.Leaves.{GrowsLeaves}
use Rattle.order_search.proofs.places.next_place.Given as goal

abbrev pub invariant-loop-child : goal.invariant-loop-child
invariant-loop-child l = record {
  routers : l.held.routers ≡ l.initial.held.routers;
  stands : (base : List Pair) → IsUnder l.initial.held.routers base l.initial.held.pairs l.initial.waiting →
      IsUnder l.held.routers base l.held.pairs l.waiting;
  grown : GrowsLeaves l.initial.tree l.tree (places_of l.initial.held.pairs l.initial.waiting) (places_of l.held.pairs l.waiting);
}

abbrev pub decreases-loop-child : goal.decreases-loop-child
decreases-loop-child l = length l.waiting
