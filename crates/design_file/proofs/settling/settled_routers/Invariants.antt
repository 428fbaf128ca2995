use Rattle.std.proofs.Common.{◌≡◌, ◌++◌, drop}
use Rattle.design_file.specs.Settling.{settled_routers}
use Rattle.design_file.proofs.settling.settled_routers.Given as goal

abbrev pub invariant-loop-router : goal.invariant-loop-router
invariant-loop-router l = l.all.items ++ settled_routers l.design (drop l.router l.net) ≡ settled_routers l.design l.net
