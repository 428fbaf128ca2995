use Rattle.std.proofs.Common.{take}
use Rattle.ios_reader.specs.steps.ToldFaults.{AreToldUpTo}
use Rattle.ios_reader.proofs.faulty_lines.firsts_on_lines.Given as goal

abbrev pub invariant-loop-fault : goal.invariant-loop-fault
invariant-loop-fault l = AreToldUpTo (take l.fault-index l.sorted) l.before l.told.items
