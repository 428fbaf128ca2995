use Rattle.std.proofs.Common.{take}
use Rattle.ospf_routes.proofs.RangeFacts.{ActivesSoFar}
use Rattle.ospf_routes.proofs.ranges.border_ranges.Given as goal

abbrev pub invariant-loop-range : goal.invariant-loop-range
invariant-loop-range l = ActivesSoFar l.domain.net l.b (take l.range-index l.ranges) l.all.items
