use Rattle.std.proofs.Common.{◌≡◌, take}
use Rattle.ios_lines.specs.FaultOrder.{least_fault}
use Rattle.ios_lines.proofs.fault.least_fault.Given as goal

abbrev pub invariant-loop-fault : goal.invariant-loop-fault
invariant-loop-fault l = l.least ≡ least_fault (take l.fault-index l.faults)
