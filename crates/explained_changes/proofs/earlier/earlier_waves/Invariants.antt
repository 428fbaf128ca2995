use Rattle.std.proofs.Common.{◌≡◌, ℕ, ◌+◌, ◌<◌}
use Rattle.order_core.specs.Rankings.{rank_of}
use Rattle.loop_finder.specs.Times.{waves_of}
use Rattle.explained_waves.specs.Reasons.{one_earlier}
use Rattle.explained_changes.proofs.earlier.earlier_waves.Given as goal

abbrev pub invariant-loop-router : goal.invariant-loop-router
invariant-loop-router l =
    (u : ℕ) → u < l.router → waves_of l.times u
    ≡ record { first = rank_of (one_earlier l.ranks l.earlier) (u + u) + 1; second = rank_of (one_earlier l.ranks l.earlier) (u + u + 1) + 1 }
