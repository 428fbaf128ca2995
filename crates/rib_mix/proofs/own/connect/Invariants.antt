use Rattle.std.proofs.Common.{take}
use Rattle.rib_mix.specs.steps.OwnCells.{Connects}
use Rattle.rib_mix.proofs.own.connect.Given as goal

abbrev pub invariant-loop-router : goal.invariant-loop-router
invariant-loop-router l = Connects (take l.router-index l.homes) l.fn.column l.column
