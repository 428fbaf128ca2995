use Rattle.std.proofs.Common.{arith}
use Rattle.std.proofs.lemmas.Grind.{common_steps}
use Rattle.refutation_check.proofs.RestFacts.{rest_refutes}
use Rattle.refutation_check.proofs.Refuting.{verdict_leaves_none, verdict_refutes}
use Rattle.refutation_check.proofs.laws.closed_trees_refute.Goals as goal

pub returns : goal.returns
returns g c = grind (arith, common_steps, rest_refutes, verdict_leaves_none, verdict_refutes)
