use Rattle.std.proofs.Common.{◌≡◌, Contains, take}
use Rattle.walk_core.specs.declared.segment.Port.{Port}
use Rattle.walk_core.proofs.outlets.other_end.Given as goal

abbrev pub invariant-loop-port : goal.invariant-loop-port
invariant-loop-port l = (p : Port) → Contains (take l.port-index l.ports) p → p.vertex ≡ l.vertex
