use Rattle.std.proofs.Common.{take}
use Rattle.std.specs.List.{Any}
use Rattle.route_tables.specs.Lists.{Adds}
use Rattle.ospf_routes.specs.steps.Candidates.{IsRangeOver}
use Rattle.ospf_routes.proofs.candidates.add_ranges.Given as goal

abbrev pub invariant-loop-range : goal.invariant-loop-range
invariant-loop-range l = Adds l.initial.dests l.dests (λ p. Any (IsRangeOver l.subnets p) (take l.range-index l.ranges))
