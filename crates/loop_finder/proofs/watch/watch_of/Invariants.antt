use Rattle.loop_finder.specs.Watches.{IsWatch}
use Rattle.loop_finder.proofs.watch.watch_of.Given as goal

abbrev pub invariant-loop-router : goal.invariant-loop-router
invariant-loop-router l = IsWatch l.parts l.router l.watch.items
