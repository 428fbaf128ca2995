use Rattle.std.proofs.Common.{◌≡◌, ℕ, ◌+◌, ◌<◌, Contains}
use Rattle.order_core.specs.Rankings.{rank_of}
use Rattle.order_core.specs.Turns.{old_routers}
use Rattle.explained_texts.proofs.ring.lowest_before.Given as goal

abbrev pub invariant-loop-before : goal.invariant-loop-before
invariant-loop-before l =
    (u : ℕ) → u < l.before → Contains (old_routers l.ring) u → ¬ (rank_of l.ranks u + 1 ≡ rank_of l.ranks l.router)
