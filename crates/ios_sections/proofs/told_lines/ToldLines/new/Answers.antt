use Rattle.std.proofs.Common.{length, ap, arith}
use Rattle.std.proofs.lemmas.Grind.{common_steps}
use Rattle.ios_sections.proofs.NumberedLines.{text_numbered, texts_count, line_count}
use Rattle.ios_sections.proofs.told_lines.ToldLines.new.Goals as goal

pub invariant_of-result : goal.invariant_of-result
invariant_of-result c = omega (arith, line_count c.args.text.now, ap length c.new.ensures)

pub returns-clause-lines : goal.returns-clause-lines
returns-clause-lines c = grind (arith, common_steps, text_numbered)

pub returns-clause-count : goal.returns-clause-count
returns-clause-count c = grind (arith, common_steps, texts_count)

pub returns-clause-few : goal.returns-clause-few
returns-clause-few c = omega (arith, line_count c.args.text.now, ap length c.new.ensures)
