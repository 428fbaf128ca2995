use Rattle.std.proofs.Common.{arith}
use Rattle.std.proofs.lemmas.Grind.{common_steps}
use Rattle.std.proofs.Common.{sym}
use Rattle.std.proofs.lemmas.List.{take_all, append-nil}
use Rattle.refutation_check.proofs.Kept.{spaced_more}
use Rattle.refutation_check.proofs.text.with_numbers.Goals as goal

pub loop-number-init : goal.loop-number-init
loop-number-init c = sym (append-nil c.args.line)

pub loop-number-preserved : goal.loop-number-preserved
loop-number-preserved c = grind (arith, common_steps, spaced_more)

pub returns : goal.returns
returns c = grind (arith, common_steps, take_all)
