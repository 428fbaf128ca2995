use Rattle.std.proofs.Common.{◌≡◌, vec_len}
use Rattle.refutation_check.proofs.Leaving.{IsWayUp}
use Rattle.refutation_check.proofs.walk.Walk.leave.Given as goal

abbrev pub invariant-loop-cursor : goal.invariant-loop-cursor
invariant-loop-cursor l = IsWayUp l.assumed.routers l.assumed.pairs l.cursors.items l.initial.cursors.items ×
    (l.assumed.routers ≡ l.initial.assumed.routers)

abbrev pub decreases-loop-cursor : goal.decreases-loop-cursor
decreases-loop-cursor l = vec_len l.cursors
