use Rattle.std.proofs.Common.{◌≡◌, ℕ, ◌<◌, get_or, false}
use Rattle.loop_finder.proofs.live.none_marked.Given as goal

abbrev pub invariant-loop-mark : goal.invariant-loop-mark
invariant-loop-mark l = l.some ≡ false → (k : ℕ) → k < l.mark-index → get_or l.marks k false ≡ false
