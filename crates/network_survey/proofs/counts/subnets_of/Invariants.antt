use Rattle.std.proofs.Common.{◌≡◌, map, take}
use Rattle.network_survey.specs.Ports.{Port}
use Rattle.network_survey.proofs.counts.subnets_of.Given as goal

abbrev pub invariant-loop-port : goal.invariant-loop-port
invariant-loop-port l = l.subnets.items ≡ map (λ (x : Port). x.subnet) (take l.port-index l.ports)
