use Rattle.std.proofs.Common.{◌≡◌, ℕ, ◌<◌, get_or, true}
use Rattle.loop_finder.specs.Parts.{ClassPart}
use Rattle.loop_finder.proofs.waves_fault.all_move.Given as goal

abbrev pub invariant-loop-place : goal.invariant-loop-place
invariant-loop-place l = (k : ℕ) (d : ClassPart) → k < l.place → (get_or l.parts.items k d).moves ≡ true
