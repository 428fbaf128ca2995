use Rattle.std.proofs.Common.{arith}
use Rattle.std.proofs.lemmas.Grind.{common_steps}
use Rattle.std.proofs.Common.{sym}
use Rattle.std.proofs.lemmas.List.{take_all, append-nil}
use Rattle.refutation_check.proofs.Kept.{text_more}
use Rattle.refutation_check.proofs.text.with_nodes.Goals as goal

pub loop-node-init : goal.loop-node-init
loop-node-init c = sym (append-nil c.args.text)

pub loop-node-preserved : goal.loop-node-preserved
loop-node-preserved c = grind (arith, common_steps, text_more)

pub returns : goal.returns
returns c = grind (arith, common_steps, take_all)
