use Rattle.std.proofs.Common.{◌≡◌, false, take, All}
use Rattle.order_core.specs.declared.turn.Turn.{Turn}
use Rattle.explained_texts.specs.steps.Asking.{is_old_of}
use Rattle.explained_texts.proofs.ring.is_old_turn.Given as goal

abbrev pub invariant-loop-turn : goal.invariant-loop-turn
invariant-loop-turn l = All (λ (t : Turn). is_old_of l.router t ≡ false) (take l.turn-index l.ring)
