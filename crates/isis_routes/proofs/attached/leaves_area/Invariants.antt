use Rattle.std.proofs.Common.{ℕ, ◌<◌}
use Rattle.isis_routes.specs.steps.Attached.{LeadsOutside}
use Rattle.isis_routes.proofs.attached.leaves_area.Given as goal

abbrev pub invariant-loop-other : goal.invariant-loop-other
invariant-loop-other l = (w : ℕ) → w < l.other → LeadsOutside l.net l.router w → ⊥
