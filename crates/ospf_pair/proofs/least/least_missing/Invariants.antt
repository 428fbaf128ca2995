use Rattle.std.proofs.Common.{ℕ, ◌<◌}
use Rattle.ospf_pair.specs.NetworkPairs.{network_pair}
use Rattle.ospf_pair.specs.steps.Places.{IsNamedAlikeAt}
use Rattle.ospf_pair.proofs.least.least_missing.Given as goal

abbrev pub invariant-loop-router : goal.invariant-loop-router
invariant-loop-router l = (u : ℕ) → u < l.router → IsNamedAlikeAt (network_pair l.old l.new) u
