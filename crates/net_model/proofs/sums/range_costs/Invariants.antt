use Rattle.std.proofs.Common.{◌≡◌, sum_by, take}
use Rattle.net_model.specs.Conditions.{stated_cost}
use Rattle.net_model.specs.Refusals.{carried}
use Rattle.net_model.specs.declared.area.Range.{Range}
use Rattle.net_model.proofs.sums.range_costs.Given as goal

abbrev pub invariant-loop-range : goal.invariant-loop-range
invariant-loop-range l = l.sum ≡ carried (sum_by (λ (r : Range). stated_cost r.cost) (take l.range-index l.ranges))
