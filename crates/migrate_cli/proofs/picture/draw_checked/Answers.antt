use Rattle.std.proofs.Common.{arith}
use Rattle.std.proofs.lemmas.Grind.{common_steps}
use Rattle.migrate_cli.proofs.PictureLaws.{drawn_no, drawn_yes}
use Rattle.migrate_cli.proofs.picture.draw_checked.Goals as goal

pub returns-then-is_yes : goal.returns-then-is_yes
returns-then-is_yes c = grind (arith, common_steps, drawn_yes)

pub returns : goal.returns
returns c = grind (arith, common_steps, drawn_no)
