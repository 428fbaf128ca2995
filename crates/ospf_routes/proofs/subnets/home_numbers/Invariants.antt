use Rattle.std.proofs.Common.{ℕ, take}
use Rattle.std.specs.List.{Any}
use Rattle.ospf_routes.specs.Lists.{Adds}
use Rattle.ospf_routes.specs.steps.Subnets.{IsHome}
use Rattle.ospf_routes.proofs.subnets.home_numbers.Given as goal

abbrev pub invariant-loop-subnet : goal.invariant-loop-subnet
invariant-loop-subnet l = Adds l.initial.homes.items l.homes.items (λ (x : ℕ). Any (IsHome l.dest x) (take l.subnet-index l.subnets))
