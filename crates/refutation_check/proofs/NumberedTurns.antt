-- The turn at a place of a tagged ring has to pass packets on.
use Rattle.std.proofs.Common.{◌≡◌, ℕ, ◌<◌, List, length, get_or, subst}
use Rattle.igp_theory.specs.Forwarding.{MustForward}
use Rattle.igp_theory.specs.Loops.{AroundRing, IsTag}
use Rattle.igp_theory.specs.Migrations.{Migration}
use Rattle.order_core.specs.declared.turn.Turn.{Turn}
use Rattle.plan_theory.proofs.NumberedTurns.{turns_must}

pub round_must : (move : Migration) (a : ℕ) (turns : List Turn) (k : ℕ) (turn : Turn) →
    AroundRing (λ (r s : Turn). IsTag move a r s.router) turns → k < length turns →
    get_or turns k turn ≡ turn → MustForward move.net a turn.router
round_must move a turns k turn tags within is =
    subst (λ (t : Turn). MustForward move.net a t.router) is (turns_must move a turns tags k turn within)
