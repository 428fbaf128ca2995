use Rattle.std.proofs.Common.{◌≡◌, take}
use Rattle.route_tables.proofs.table.prefixes_of.Given as goal

abbrev pub invariant-loop-place : goal.invariant-loop-place
invariant-loop-place g l = l.prefixes.items ≡ take l.place (g.P.Protocol.candidates l.protocol)
