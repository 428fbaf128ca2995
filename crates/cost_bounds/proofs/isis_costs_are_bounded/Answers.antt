use Rattle.std.proofs.Common.{arith}
use Rattle.net_model.specs.Conditions.{isis_metric_sum}
use Rattle.cost_bounds.proofs.IsisBounds.{isis_costs_at_most}
use Rattle.cost_bounds.proofs.isis_costs_are_bounded.Goals as goal

pub returns : goal.returns
returns c = record {
  sum = λ net. isis_costs_at_most net (isis_metric_sum net) (omega arith);
  path_metrics = λ configs net made. isis_costs_at_most net _ made.consistent.isis_metrics;
}
