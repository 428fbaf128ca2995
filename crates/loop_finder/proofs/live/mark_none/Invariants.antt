use Rattle.std.proofs.Common.{◌≡◌, ℕ, ◌<◌, get_or, false}
use Rattle.loop_finder.proofs.live.mark_none.Given as goal

abbrev pub invariant-loop-mark : goal.invariant-loop-mark
invariant-loop-mark l = (r : ℕ) → r < l.mark-index → get_or l.marks r false ≡ false
