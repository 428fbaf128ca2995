use Rattle.std.proofs.Common.{ℕ, ◌<◌}
use Rattle.observed_night.specs.ShownPhases.{IsAstray}
use Rattle.observed_night.proofs.astray.first_astray.Given as goal

abbrev pub invariant-loop-router : goal.invariant-loop-router
invariant-loop-router l = (u : ℕ) → u < l.router → IsAstray l.before l.now l.ranks u → ⊥
