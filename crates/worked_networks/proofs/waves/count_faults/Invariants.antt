use Rattle.std.proofs.Common.{◌≡◌}
use Rattle.worked_networks.proofs.waves.count_faults.Given as goal

abbrev pub invariant-loop-code : goal.invariant-loop-code
invariant-loop-code g l = l.finder.mixture ≡ l.fn.finder.mixture
