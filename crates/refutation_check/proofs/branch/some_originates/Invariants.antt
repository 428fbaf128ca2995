use Rattle.std.proofs.Common.{take, All}
use Rattle.net_model.specs.Network.{Connected}
use Rattle.order_core.specs.declared.turn.Turn.{Turn}
use Rattle.refutation_check.proofs.branch.some_originates.Given as goal

abbrev pub invariant-loop-turn : goal.invariant-loop-turn
invariant-loop-turn l = All (λ (t : Turn). Connected l.net t.router l.target → ⊥) (take l.turn-index l.turns)
