use Rattle.std.proofs.Common.{◌≡◌, drop}
use Rattle.isis_writer.specs.Prepared.{numbered_from}
use Rattle.isis_writer.proofs.prepared.numbered.Given as goal

abbrev pub invariant-loop-router : goal.invariant-loop-router
invariant-loop-router l = numbered_from l.router l.name (drop l.router l.net) ≡ numbered_from 0 l.name l.net
