use Rattle.std.proofs.lemmas.Grind.{common_steps}
use Rattle.std.proofs.Common.{◌≤◌, arith}
use Rattle.std.proofs.lemmas.List.{take_more}
use Rattle.order_search.specs.Trees.{branches_at}
use Rattle.order_search.specs.declared.tree.Node.{Node}
use Rattle.order_search.proofs.Fills.{branch_count-append}
use Rattle.migrate_cli.proofs.sample.count_branches.Goals as goal

one_at_most : (node : Node) → branches_at node ≤ 1
one_at_most node = grind (arith, common_steps)

pub loop-node-preserved : goal.loop-node-preserved
loop-node-preserved c = grind (arith, common_steps, branch_count-append, one_at_most, take_more)
