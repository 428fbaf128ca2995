use Rattle.std.proofs.Common.{ℕ, ◌<◌}
use Rattle.observed_night.specs.steps.Sights.{AreAlikeAt}
use Rattle.observed_night.proofs.difference.first_difference.Given as goal

abbrev pub invariant-loop-router : goal.invariant-loop-router
invariant-loop-router l = (u : ℕ) → u < l.router → AreAlikeAt l.before l.now u
