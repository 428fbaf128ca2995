use Rattle.rib_mix.specs.steps.Homes.{AreHomesBelow}
use Rattle.rib_mix.proofs.homes.homes_of.Given as goal

abbrev pub invariant-loop-router : goal.invariant-loop-router
invariant-loop-router l = AreHomesBelow l.prefixes l.subnets l.router l.homes.items
