use Rattle.std.proofs.Common.{◌≡◌, ◌++◌, take}
use Rattle.std.specs.List.{filter_map}
use Rattle.prefix_atoms.specs.Originated.{originated_subnet}
use Rattle.prefix_atoms.proofs.collect.add_originated.Given as goal

abbrev pub invariant-loop-interface : goal.invariant-loop-interface
invariant-loop-interface l =
    l.prefixes.items ≡ l.initial.prefixes.items ++ filter_map originated_subnet (take l.interface-index l.interfaces)
