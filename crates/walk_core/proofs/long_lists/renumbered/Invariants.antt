use Rattle.std.proofs.Common.{◌≡◌, take}
use Rattle.walk_core.specs.steps.Members.{members_at}
use Rattle.walk_core.proofs.long_lists.renumbered.Given as goal

abbrev pub invariant-loop-number : goal.invariant-loop-number
invariant-loop-number l = l.all.items ≡ members_at l.vertices (take l.number-index l.numbers)
