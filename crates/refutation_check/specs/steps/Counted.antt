-- Nodes that are counted.
use Rattle.std.specs.Prelude.{◌≡◌, ◌+◌}
use Rattle.order_search.specs.Trees.{branches_at}
use Rattle.order_search.specs.declared.tree.Node.{Node}
use Rattle.refutation_check.specs.Verdicts.{leaves_at, open_at}
use Rattle.refutation_check.specs.declared.tally.Tally.{Tally}

-- one node more is counted
pub record CountsNode (before after : Tally) (node : Node) : Type 0 where
  pub branches : after.branches ≡ before.branches + branches_at node
  pub leaves : after.leaves ≡ before.leaves + leaves_at node
  pub unvisited : after.unvisited ≡ before.unvisited + open_at node
