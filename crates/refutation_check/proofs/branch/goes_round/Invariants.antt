use Rattle.std.proofs.Common.{ℕ, ◌<◌, get_or, All}
use Rattle.igp_theory.specs.Forwarding.{MustForward}
use Rattle.igp_theory.specs.Loops.{IsTag}
use Rattle.order_core.specs.declared.turn.Turn.{Turn}
use Rattle.prefix_atoms.specs.Classes.{IsInClass}
use Rattle.refutation_check.specs.steps.Judged.{started_of}
use Rattle.refutation_check.specs.steps.Rings.{next_at}
use Rattle.refutation_check.proofs.branch.goes_round.Given as goal

abbrev pub invariant-loop-place : goal.invariant-loop-place
invariant-loop-place g l =
    (a : ℕ) → IsInClass l.asked.mixed.now.classes l.atom a → All (λ (turn : Turn). MustForward l.asked.mixed.now.net a turn.router) l.turns →
    (k : ℕ) (d : Turn) → k < l.place →
    IsTag (started_of g.O.RouteSource.table g.N.RouteSource.table l.asked.mixed.now l.asked.start.now) a (get_or l.turns k d)
    (next_at l.turns k d).router
