use Rattle.std.proofs.lemmas.Grind.{common_steps}
use Rattle.std.proofs.Common.{arith}
use Rattle.walk_core.proofs.ExitLaws.{exits_all, exits_more}
use Rattle.walk_core.proofs.exits.exits_over.Goals as goal

pub loop-outlet-init : goal.loop-outlet-init
loop-outlet-init c = grind (arith, common_steps)

pub loop-outlet-preserved : goal.loop-outlet-preserved
loop-outlet-preserved c = grind (arith, common_steps, exits_more)

pub returns : goal.returns
returns c =
    exits_all c.args.rows.now c.args.outlets.now c.loop-outlet.outlet-index c.loop-outlet.exits.items c.loop-outlet-test.false c.loop-outlet.invariant
