use Rattle.std.proofs.Common.{ℕ, ◌<◌}
use Rattle.ospf_pair.specs.NetworkPairs.{network_pair}
use Rattle.ospf_pair.specs.steps.Places.{MeetsAt}
use Rattle.ospf_pair.proofs.least.first_meeting.Given as goal

abbrev pub invariant-loop-router : goal.invariant-loop-router
invariant-loop-router g l = (u : ℕ) → u < l.router → MeetsAt g.C.PairCondition.condition (network_pair l.old l.new) u → ⊥
