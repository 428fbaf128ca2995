use Rattle.std.proofs.Common.{take}
use Rattle.std.specs.List.{Any}
use Rattle.route_tables.specs.Lists.{Adds}
use Rattle.isis_routes.specs.steps.Candidates.{HasIsisSubnet}
use Rattle.isis_routes.proofs.candidates.add_subnets.Given as goal

abbrev pub invariant-loop-interface : goal.invariant-loop-interface
invariant-loop-interface l = Adds l.initial.dests l.dests (λ p. Any (HasIsisSubnet p) (take l.interface-index l.interfaces))
