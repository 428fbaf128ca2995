-- The assumed pairs with the successors of each router.
use Rattle.std.specs.Prelude.{ℕ, ◌≤◌, length}
use Rattle.order_core.specs.Pairs.{AreBelow}
use Rattle.precedence_set.specs.Successors.{AreSuccessors}
use Rattle.precedence_set.specs.declared.graph.SuccessorGraph.{SuccessorGraph}

-- pairs of n routers, with the lists of the pairs from each router
pub record IsGraph (n : ℕ) (graph : SuccessorGraph) : Type 0 where
  pub below : AreBelow n graph.pairs.now
  pub successors : AreSuccessors n graph.pairs.now graph.successors.now.lists
  pub nodes : length graph.pairs.now ≤ graph.successors.now.nodes
