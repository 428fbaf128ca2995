use Rattle.std.proofs.Common.{take}
use Rattle.net_model.specs.steps.Subnets.{BestSubnet}
use Rattle.net_model.proofs.subnets.longest_subnet.Given as goal

abbrev pub invariant-loop-interface : goal.invariant-loop-interface
invariant-loop-interface l = BestSubnet l.a (take l.interface-index l.interfaces) l.best
