use Rattle.std.proofs.Common.{take}
use Rattle.std.specs.List.{Any}
use Rattle.net_model.specs.Network.{RunsArea}
use Rattle.ospf_routes.specs.Lists.{Adds}
use Rattle.ospf_routes.proofs.areas.add_areas.Given as goal

abbrev pub invariant-loop-interface : goal.invariant-loop-interface
invariant-loop-interface l = Adds l.initial.numbers.items l.numbers.items (λ n. Any (RunsArea n) (take l.interface-index l.interfaces))
