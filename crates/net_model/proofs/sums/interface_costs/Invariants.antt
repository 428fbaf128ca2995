use Rattle.std.proofs.Common.{◌≡◌, sum_by, take}
use Rattle.net_model.specs.Conditions.{summed_cost}
use Rattle.net_model.specs.Refusals.{carried}
use Rattle.net_model.proofs.sums.interface_costs.Given as goal

abbrev pub invariant-loop-interface : goal.invariant-loop-interface
invariant-loop-interface l = l.sum ≡ carried (sum_by summed_cost (take l.interface-index l.interfaces))
