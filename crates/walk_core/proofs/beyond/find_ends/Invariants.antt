use Rattle.std.proofs.Common.{take}
use Rattle.walk_core.proofs.NearestLaws.{AreNearest}
use Rattle.walk_core.proofs.beyond.find_ends.Given as goal

abbrev pub invariant-loop-port : goal.invariant-loop-port
invariant-loop-port l = AreNearest l.rows (take l.port-index l.ports) l.v (record { distance = l.nearest; ends = l.ends.items })
