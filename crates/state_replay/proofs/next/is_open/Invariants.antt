use Rattle.std.proofs.Common.{◌≡◌, ℕ, ◌<◌, get_or}
use Rattle.state_replay.proofs.next.is_open.Given as goal

abbrev pub invariant-loop-router : goal.invariant-loop-router
invariant-loop-router l = (v : ℕ) → v < l.router → get_or l.ranks v 0 < l.rank → get_or l.done v 0 ≡ 2
