use Rattle.std.proofs.Common.{◌≡◌, ◌++◌, eqb}
use Rattle.std.specs.List.{filter}
use Rattle.order_core.specs.Rankings.{rank_of, numbers_below}
use Rattle.order_core.proofs.waves.push_wave.Given as goal

abbrev pub invariant-loop-router : goal.invariant-loop-router
invariant-loop-router l = l.flat.items ≡ l.fn.flat.items ++ filter (λ u. eqb (rank_of l.ranks u) l.wave) (numbers_below l.router)
