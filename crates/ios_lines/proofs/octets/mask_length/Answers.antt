use Rattle.std.proofs.Common.{◌-◌, sym, ◌∙◌, arith}
use Rattle.ios_lines.proofs.MaskWordFacts.{mask_found}
use Rattle.ios_lines.proofs.octets.mask_length.Goals as goal

pub returns-then-is_mask-clause-value : goal.returns-then-is_mask-clause-value
returns-then-is_mask-clause-value c =
    sym (mask_found c.args.address (32 - c.loop-zeros.zeros) (omega (arith, c.loop-zeros-test.true)) (omega arith)
    (sym c.is_mask.ensures ∙ c.if-is_mask.true))
