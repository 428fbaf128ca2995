use Rattle.std.proofs.Common.{ℕ, ◌<◌}
use Rattle.order_core.specs.Rankings.{rank_of}
use Rattle.observed_night.specs.ShownPhases.{IsNotDone}
use Rattle.observed_night.proofs.astray.follows_undone.Given as goal

abbrev pub invariant-loop-other : goal.invariant-loop-other
invariant-loop-other l = (v : ℕ) → v < l.other → rank_of l.ranks v < rank_of l.ranks l.router → IsNotDone l.before l.now v → ⊥
