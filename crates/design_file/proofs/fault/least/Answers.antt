use Rattle.design_file.proofs.FaultListLaws.{told_further}
use Rattle.design_file.proofs.fault.least.Goals as goal

pub loop-fault-preserved : goal.loop-fault-preserved
loop-fault-preserved c = told_further c.loop-fault.best c.loop-fault.yielded c.in-Some.fault c.told_of.result c.loop-fault.invariant c.told_of.ensures
