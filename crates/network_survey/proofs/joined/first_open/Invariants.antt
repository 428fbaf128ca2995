use Rattle.std.proofs.Common.{ℕ, ◌<◌}
use Rattle.network_survey.specs.steps.Reached.{IsUnvisited}
use Rattle.network_survey.proofs.joined.first_open.Given as goal

abbrev pub invariant-loop-router : goal.invariant-loop-router
invariant-loop-router l = (u : ℕ) → u < l.router → IsUnvisited l.reached l.done u → ⊥
