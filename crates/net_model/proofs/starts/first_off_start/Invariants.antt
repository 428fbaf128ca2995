use Rattle.std.proofs.Common.{ℕ, ◌<◌}
use Rattle.net_model.specs.OffStarts.{StartsOff}
use Rattle.net_model.proofs.starts.first_off_start.Given as goal

abbrev pub invariant-loop-router : goal.invariant-loop-router
invariant-loop-router l = (u : ℕ) → u < l.router → StartsOff l.configs u → ⊥
