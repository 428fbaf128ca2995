use Rattle.std.proofs.lemmas.Grind.{common_steps}
use Rattle.std.proofs.Common.{arith}
use Rattle.std.proofs.lemmas.Slice.{between_to_end}
use Rattle.net_addr.proofs.PieceFacts.{lines_of-first, lines_of-end, one_more}
use Rattle.net_addr.proofs.PlacedPieces.{text_lines-inside, text_lines-texts}
use Rattle.net_addr.proofs.line.lines.Goals as goal

pub loop-start-preserved : goal.loop-start-preserved
loop-start-preserved c = grind (arith, common_steps, between_to_end, lines_of-first, one_more)

pub returns-clause-inside : goal.returns-clause-inside
returns-clause-inside c = grind (arith, common_steps, lines_of-end, text_lines-inside)

pub returns-clause-texts : goal.returns-clause-texts
returns-clause-texts c = grind (arith, common_steps, lines_of-end, text_lines-texts)
