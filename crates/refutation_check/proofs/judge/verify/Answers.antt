use Rattle.std.proofs.Common.{arith}
use Rattle.std.proofs.lemmas.Grind.{common_steps}
use Rattle.std.proofs.lemmas.Result.{IfOk-weaker}
use Rattle.refutation_check.proofs.Refuting.{verdict_refutes}
use Rattle.refutation_check.proofs.judge.verify.Goals as goal

pub returns-clause-refutes : goal.returns-clause-refutes
returns-clause-refutes g c = grind (arith, common_steps, IfOk-weaker, verdict_refutes)
