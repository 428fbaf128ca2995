use Rattle.std.proofs.Common.{◌≡◌, nat_eq, take, map}
use Rattle.indexmap.specs.IndexMap.{get}
use Rattle.ios_reader.specs.steps.Tables.{stub_made}
use Rattle.ios_reader.proofs.areas.stubs_of.Given as goal

abbrev pub invariant-loop-line : goal.invariant-loop-line
invariant-loop-line l = l.stubs.items ≡ map (stub_made (get nat_eq l.costs)) (take l.line-index l.lines)
