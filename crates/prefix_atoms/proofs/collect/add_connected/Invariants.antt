use Rattle.std.proofs.Common.{◌≡◌, ◌++◌, take}
use Rattle.std.specs.List.{filter_map}
use Rattle.net_model.specs.DestLists.{subnet_if_up}
use Rattle.prefix_atoms.proofs.collect.add_connected.Given as goal

abbrev pub invariant-loop-interface : goal.invariant-loop-interface
invariant-loop-interface l =
    l.prefixes.items ≡ l.initial.prefixes.items ++ filter_map subnet_if_up (take l.interface-index l.interfaces)
