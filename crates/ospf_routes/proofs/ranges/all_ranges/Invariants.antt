use Rattle.ospf_routes.specs.steps.Ranges.{AreRangesBelow}
use Rattle.ospf_routes.proofs.ranges.all_ranges.Given as goal

abbrev pub invariant-loop-b : goal.invariant-loop-b
invariant-loop-b l = AreRangesBelow l.domain.net l.b l.ranges.items
