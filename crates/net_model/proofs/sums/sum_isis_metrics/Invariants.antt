use Rattle.std.proofs.Common.{◌≡◌, take}
use Rattle.net_model.specs.Conditions.{isis_metric_sum}
use Rattle.net_model.specs.Refusals.{carried}
use Rattle.net_model.proofs.sums.sum_isis_metrics.Given as goal

abbrev pub invariant-loop-config : goal.invariant-loop-config
invariant-loop-config l = l.sum ≡ carried (isis_metric_sum (take l.config-index l.configs))
