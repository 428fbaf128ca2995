use Rattle.std.proofs.Common.{◌≡◌}
use Rattle.plan_theory.specs.Ranked.{change_base}
use Rattle.plan_theory.proofs.numbers.change_pairs.Given as goal

abbrev pub invariant-loop-router : goal.invariant-loop-router
invariant-loop-router l = l.pairs.items ≡ change_base l.router
