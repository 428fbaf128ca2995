use Rattle.std.proofs.Common.{◌≢◌, take, All}
use Rattle.order_core.specs.declared.turn.Turn.{Turn}
use Rattle.refutation_check.proofs.names.has_turn.Given as goal

abbrev pub invariant-loop-turn : goal.invariant-loop-turn
invariant-loop-turn l = All (λ (t : Turn). t.router ≢ l.router) (take l.turn-index l.turns)
