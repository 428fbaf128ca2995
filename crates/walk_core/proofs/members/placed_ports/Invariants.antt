use Rattle.std.proofs.Common.{◌≡◌, take}
use Rattle.walk_core.specs.steps.Members.{placed_ports}
use Rattle.walk_core.proofs.members.placed_ports.Given as goal

abbrev pub invariant-loop-port : goal.invariant-loop-port
invariant-loop-port l = l.all.items ≡ placed_ports l.members (take l.port-index l.ports)
