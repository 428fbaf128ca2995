use Rattle.std.proofs.Common.{arith}
use Rattle.std.proofs.lemmas.Grind.{common_steps}
use Rattle.plan_theory.proofs.NumberWords.{NamesNumber-unique}
use Rattle.refutation_check.proofs.names.further_number.Goals as goal

pub returns-in_err-number : goal.returns-in_err-number
returns-in_err-number c = rw c.from_residual.ensures (λ u named. absurd (c.in_err-number.ensures u named))

pub returns-then-has_number : goal.returns-then-has_number
returns-then-has_number c = grind (arith, common_steps, NamesNumber-unique)
