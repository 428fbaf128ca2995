use Rattle.std.proofs.Common.{ℕ, ◌<◌, get_or}
use Rattle.walk_core.specs.steps.Flooding.{segment_at}
use Rattle.walk_core.specs.steps.Kept.{IsUnused}
use Rattle.walk_core.proofs.kept.are_unused.Given as goal

abbrev pub invariant-loop-place : goal.invariant-loop-place
invariant-loop-place l = (k d : ℕ) → k < l.place-index → IsUnused l.walks (segment_at l.segments (get_or l.lost k d))
