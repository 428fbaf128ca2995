use Rattle.std.proofs.Common.{◌≡◌, false, take, All}
use Rattle.order_core.specs.Turns.{is_old}
use Rattle.order_core.specs.declared.turn.Turn.{Turn}
use Rattle.refutation_check.proofs.branch.has_old.Given as goal

abbrev pub invariant-loop-turn : goal.invariant-loop-turn
invariant-loop-turn l = All (λ (t : Turn). is_old t.tag ≡ false) (take l.turn-index l.turns)
