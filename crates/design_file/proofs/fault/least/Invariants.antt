use Rattle.design_file.specs.steps.FaultLists.{IsToldAmong}
use Rattle.design_file.proofs.fault.least.Given as goal

abbrev pub invariant-loop-fault : goal.invariant-loop-fault
invariant-loop-fault l = IsToldAmong l.yielded l.best
