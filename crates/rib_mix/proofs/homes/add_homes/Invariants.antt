use Rattle.std.proofs.Common.{take}
use Rattle.rib_mix.specs.steps.Homes.{GainHomes}
use Rattle.rib_mix.proofs.homes.add_homes.Given as goal

abbrev pub invariant-loop-subnet : goal.invariant-loop-subnet
invariant-loop-subnet l = GainHomes l.prefixes l.router (take l.subnet-index l.subnets) l.fn.homes.items l.homes.items
