use Rattle.std.proofs.Common.{◌≡◌, vec_len}
use Rattle.order_search.specs.steps.Cursors.{all_children}
use Rattle.order_search.proofs.waiting.Waiting.next.Given as goal

abbrev pub invariant-loop-siblings : goal.invariant-loop-siblings
invariant-loop-siblings l = all_children l.self-inside.branches.items ≡ all_children l.initial.self-inside.branches.items

abbrev pub decreases-loop-siblings : goal.decreases-loop-siblings
decreases-loop-siblings l = vec_len l.self-inside.branches
