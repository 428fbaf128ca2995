use Rattle.std.proofs.Common.{◌≡◌, map, take}
use Rattle.ios_reader.specs.Faults.{fault_further}
use Rattle.ios_reader.proofs.configuration.faults_in_text.Given as goal

abbrev pub invariant-loop-fault : goal.invariant-loop-fault
invariant-loop-fault l = l.own.items ≡ map (fault_further l.first) (take l.fault-index l.found)
