use Rattle.std.proofs.Common.{arith}
use Rattle.std.proofs.lemmas.Grind.{common_steps}
use Rattle.std.proofs.Common.{List, All, subst}
use Rattle.std.proofs.lemmas.Bool.{false≢true}
use Rattle.std.proofs.lemmas.List.{take_all}
use Rattle.std.proofs.lemmas.List.Elements.{All-more}
use Rattle.net_model.specs.Network.{Connected}
use Rattle.order_core.specs.declared.turn.Turn.{Turn}
use Rattle.refutation_check.proofs.branch.some_originates.Goals as goal

pub loop-turn-preserved : goal.loop-turn-preserved
loop-turn-preserved c = grind (arith, common_steps, All-more, false≢true)

pub returns : goal.returns
returns c = (
  λ e. absurd (false≢true e),
  λ some.
      let none : All (λ (t : Turn). Connected c.args.net.now t.router c.args.target → ⊥) c.args.turns.now =
      subst (λ (l : List Turn). All (λ (t : Turn). Connected c.args.net.now t.router c.args.target → ⊥) l)
      (take_all c.loop-turn.turn-index c.args.turns.now c.loop-turn-test.false) c.loop-turn.invariant in
      absurd (subst (λ (t : Turn). Connected c.args.net.now t.router c.args.target → ⊥) some.3 (none some.0 some.1 some.2) some.4),
)
