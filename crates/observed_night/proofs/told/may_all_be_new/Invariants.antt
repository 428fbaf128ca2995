use Rattle.std.proofs.Common.{ℕ, ◌<◌, ◌≤◌}
use Rattle.order_core.specs.Rankings.{rank_of}
use Rattle.igp_theory.specs.declared.phase.Phase.TheVariants.{New}
use Rattle.observed_night.specs.ShownPhases.{MayBeIn}
use Rattle.observed_night.proofs.told.may_all_be_new.Given as goal

abbrev pub invariant-loop-other : goal.invariant-loop-other
invariant-loop-other l = (v : ℕ) → v < l.other → rank_of l.ranks v ≤ rank_of l.ranks l.router → MayBeIn l.before l.now v New
