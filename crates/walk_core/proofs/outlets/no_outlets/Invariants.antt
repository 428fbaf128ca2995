use Rattle.std.proofs.Common.{◌≡◌, [], replicate}
use Rattle.walk_core.proofs.outlets.no_outlets.Given as goal

abbrev pub invariant-loop : goal.invariant-loop
invariant-loop l = l.all.items ≡ replicate l.counter []
