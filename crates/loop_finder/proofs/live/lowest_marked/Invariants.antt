use Rattle.std.proofs.Common.{take}
use Rattle.loop_finder.specs.steps.Live.{LowestMarked}
use Rattle.loop_finder.proofs.live.lowest_marked.Given as goal

abbrev pub invariant-loop-router : goal.invariant-loop-router
invariant-loop-router l = LowestMarked (take l.router-index l.routers) l.marks l.lowest
