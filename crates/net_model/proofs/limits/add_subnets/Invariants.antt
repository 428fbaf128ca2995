use Rattle.std.proofs.Common.{◌≡◌, ◌++◌, take}
use Rattle.std.specs.List.{filter_map}
use Rattle.net_model.specs.DestLists.{subnet_if_up}
use Rattle.net_model.proofs.limits.add_subnets.Given as goal

abbrev pub invariant-loop-interface : goal.invariant-loop-interface
invariant-loop-interface l =
    l.dests.items ≡ l.initial.dests.items ++ filter_map subnet_if_up (take l.interface-index l.interfaces)
