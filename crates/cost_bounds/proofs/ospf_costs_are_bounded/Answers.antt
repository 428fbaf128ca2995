use Rattle.std.proofs.Common.{arith}
use Rattle.net_model.specs.Conditions.{ospf_cost_sum}
use Rattle.cost_bounds.proofs.OspfBounds.{ospf_costs_at_most, inter_area_twice}
use Rattle.cost_bounds.proofs.ospf_costs_are_bounded.Goals as goal

pub returns : goal.returns
returns c = record {
  sum = λ net. ospf_costs_at_most net (ospf_cost_sum net) (omega arith);
  reachable = λ configs net made. ospf_costs_at_most net _ made.consistent.ospf_costs;
  twice = inter_area_twice;
}
