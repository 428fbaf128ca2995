use Rattle.std.proofs.Common.{arith}
use Rattle.drawn_network.proofs.TargetFacts.{best_of_all, none_before}
use Rattle.drawn_network.proofs.target.target_of.Goals as goal

pub loop-router-init : goal.loop-router-init
loop-router-init c = none_before c.args.net.now c.args.a

pub returns : goal.returns
returns c = best_of_all c.args.net.now c.loop-router.router c.args.a c.loop-router.best (omega arith) c.loop-router.invariant
