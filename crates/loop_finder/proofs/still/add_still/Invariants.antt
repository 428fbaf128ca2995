use Rattle.std.proofs.Common.{length, take}
use Rattle.loop_finder.proofs.PartRows.{AreAdded}
use Rattle.loop_finder.proofs.still.add_still.Given as goal

abbrev pub invariant-loop-router : goal.invariant-loop-router
invariant-loop-router l = AreAdded l.lists (length l.lists.olds) l.initial.still.items (take l.router-index l.routers) l.still.items
