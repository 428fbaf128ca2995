use Rattle.std.proofs.Common.{◌≡◌, sum_by, take}
use Rattle.net_model.specs.Refusals.{carried}
use Rattle.net_model.specs.declared.area.Stub.{Stub}
use Rattle.net_model.proofs.sums.default_costs.Given as goal

abbrev pub invariant-loop-stub : goal.invariant-loop-stub
invariant-loop-stub l = l.sum ≡ carried (sum_by (λ (s : Stub). s.default_cost) (take l.stub-index l.stubs))
