use Rattle.std.proofs.Common.{◌≡◌, map, take}
use Rattle.failed_links.specs.ShutDown.{shut_interface}
use Rattle.failed_links.proofs.copies.shut_interfaces.Given as goal

abbrev pub invariant-loop-interface : goal.invariant-loop-interface
invariant-loop-interface l = l.shut.items ≡ map (shut_interface l.link) (take l.interface-index l.interfaces)
