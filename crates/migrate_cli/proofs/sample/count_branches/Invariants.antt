use Rattle.std.proofs.Common.{◌≡◌, ◌≤◌, take}
use Rattle.order_search.specs.Trees.{branch_count}
use Rattle.migrate_cli.proofs.sample.count_branches.Given as goal

abbrev pub invariant-loop-node : goal.invariant-loop-node
invariant-loop-node l = record {
  counted : l.branches ≡ branch_count (take l.node-index l.nodes);
  few : l.branches ≤ l.node-index;
}
