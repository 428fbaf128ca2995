use Rattle.std.proofs.Common.{◌≡◌, take}
use Rattle.net_model.specs.Conditions.{ospf_cost_sum}
use Rattle.net_model.specs.Refusals.{carried}
use Rattle.net_model.proofs.sums.sum_ospf_costs.Given as goal

abbrev pub invariant-loop-config : goal.invariant-loop-config
invariant-loop-config l = l.sum ≡ carried (ospf_cost_sum (take l.config-index l.configs))
