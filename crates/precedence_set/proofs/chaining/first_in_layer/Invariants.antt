use Rattle.std.proofs.Common.{◌≢◌, ℕ, ◌<◌}
use Rattle.order_core.specs.Rankings.{rank_of}
use Rattle.precedence_set.proofs.chaining.first_in_layer.Given as goal

abbrev pub invariant-loop-router : goal.invariant-loop-router
invariant-loop-router l = (q : ℕ) → q < l.router → rank_of l.layers q ≢ l.layer
