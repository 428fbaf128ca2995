use Rattle.std.proofs.lemmas.Grind.{common_steps}
use Rattle.std.proofs.Common.{arith}
use Rattle.migrate_cli.proofs.SendingFacts.{OnErr-from, adds_piece, adds_part}
use Rattle.migrate_cli.proofs.sending.send.Goals as goal

pub returns-in_err-write-clause-cut : goal.returns-in_err-write-clause-cut
returns-in_err-write-clause-cut g c = grind (arith, common_steps, OnErr-from, adds_part)

pub loop-done-preserved : goal.loop-done-preserved
loop-done-preserved g c = grind (arith, common_steps, adds_piece)
