use Rattle.std.proofs.Common.{◌≡◌}
use Rattle.worked_examples.proofs.precedences.assumed.Given as goal

abbrev pub invariant-loop-u : goal.invariant-loop-u
invariant-loop-u l = l.held.routers ≡ l.routers
