use Rattle.std.proofs.lemmas.Grind.{common_steps}
use Rattle.std.proofs.Common.{arith}
use Rattle.net_addr.proofs.NumeralFacts.{decimal_value_more, no_numeral}
use Rattle.net_addr.proofs.number.read_number.Goals as goal

pub returns-in_err-value : goal.returns-in_err-value
returns-in_err-value c =
    rw c.from_residual.ensures
    (no_numeral c.args.most c.args.word.now c.loop-byte.byte-index c.loop-byte.value (omega arith) c.loop-byte.invariant.value c.in_err-value.ensures)

pub loop-byte-preserved : goal.loop-byte-preserved
loop-byte-preserved c = grind (arith, common_steps, decimal_value_more)
