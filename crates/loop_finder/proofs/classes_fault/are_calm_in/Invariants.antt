use Rattle.std.proofs.Common.{ℕ, ◌<◌, get_or}
use Rattle.loop_finder.proofs.classes_fault.are_calm_in.Given as goal

abbrev pub invariant-loop-place : goal.invariant-loop-place
invariant-loop-place l = (k : ℕ) → k < l.place-index → l.wave < get_or l.before.items (get_or l.places k 0) 0
