use Rattle.std.proofs.Common.{◌≡◌, ◌++◌, drop}
use Rattle.design_file.specs.Settling.{settled_interfaces}
use Rattle.design_file.proofs.interface_settling.settled_interfaces.Given as goal

abbrev pub invariant-loop-interface : goal.invariant-loop-interface
invariant-loop-interface l =
    l.all.items ++ settled_interfaces l.metric l.named (drop l.interface-index l.interfaces) ≡ settled_interfaces l.metric l.named l.interfaces
