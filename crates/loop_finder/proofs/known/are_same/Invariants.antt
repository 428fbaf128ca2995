use Rattle.std.proofs.Common.{◌≡◌, ℕ, ◌<◌}
use Rattle.igp_theory.specs.Phases.{state_in}
use Rattle.loop_finder.proofs.known.are_same.Given as goal

abbrev pub invariant-loop-place : goal.invariant-loop-place
invariant-loop-place l = (u : ℕ) → u < l.place → state_in l.one u ≡ state_in l.other u
