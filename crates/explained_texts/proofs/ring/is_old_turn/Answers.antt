use Rattle.std.proofs.Common.{◌≡◌, ◌∙◌, false, refl, sym}
use Rattle.std.proofs.lemmas.Bool.{false≢true}
use Rattle.std.proofs.lemmas.List.Elements.{All-more}
use Rattle.order_core.specs.declared.turn.Tag.TheVariants.{Old}
use Rattle.order_core.specs.declared.turn.Turn.{Turn}
use Rattle.explained_texts.specs.steps.Asking.{is_old_of}
use Rattle.explained_texts.proofs.ReasonLines.{none_old, old_there}
use Rattle.explained_texts.proofs.ring.is_old_turn.Goals as goal

pub returns-then-is_old_of : goal.returns-then-is_old_of
returns-then-is_old_of c = (
  λ e. old_there c.args.ring.now c.args.router c.loop-turn.turn-index (record { router = 0; tag = Old }) c.loop-turn-test.true
      (sym c.is_old_of.ensures ∙ c.if-is_old_of.true),
  λ there. refl,
)

pub loop-turn-preserved : goal.loop-turn-preserved
loop-turn-preserved c =
    All-more (λ (t : Turn). is_old_of c.args.router t ≡ false) c.args.ring.now c.loop-turn.turn-index (record { router = 0; tag = Old })
    c.loop-turn-test.true c.loop-turn.invariant (sym c.is_old_of.ensures ∙ c.if-is_old_of.false)

pub returns : goal.returns
returns c = (
  λ e. absurd (false≢true e),
  λ there. absurd (none_old c.args.ring.now c.args.router c.loop-turn.turn-index c.loop-turn-test.false c.loop-turn.invariant there),
)
