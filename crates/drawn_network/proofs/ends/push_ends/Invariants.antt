use Rattle.std.proofs.Common.{◌≡◌, ◌++◌, take}
use Rattle.std.specs.List.{flat_map}
use Rattle.drawn_network.specs.LinkEnds.{end_at}
use Rattle.drawn_network.proofs.ends.push_ends.Given as goal

abbrev pub invariant-loop-interface : goal.invariant-loop-interface
invariant-loop-interface l = l.ends.items ≡ l.initial.ends.items ++ flat_map (end_at l.router)
    (take l.interface-index l.interfaces)
