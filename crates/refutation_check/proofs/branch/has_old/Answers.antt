use Rattle.std.proofs.Common.{arith}
use Rattle.std.proofs.lemmas.Grind.{common_steps}
use Rattle.std.proofs.Common.{◌≡◌, false, sym, ◌∙◌}
use Rattle.std.proofs.lemmas.Bool.{false≢true}
use Rattle.std.proofs.lemmas.List.Elements.{All-more}
use Rattle.order_core.specs.Turns.{is_old}
use Rattle.order_core.specs.declared.turn.Tag.TheVariants.{Old}
use Rattle.order_core.specs.declared.turn.Turn.{Turn}
use Rattle.refutation_check.proofs.Kept.{some_router, no_router}
use Rattle.refutation_check.proofs.branch.has_old.Goals as goal

pub returns-then-is_old : goal.returns-then-is_old
returns-then-is_old c = grind (arith, common_steps, some_router)

pub loop-turn-preserved : goal.loop-turn-preserved
loop-turn-preserved c =
    All-more (λ (t : Turn). is_old t.tag ≡ false) c.args.turns.now c.loop-turn.turn-index (record { router = 0; tag = Old }) c.loop-turn-test.true
    c.loop-turn.invariant (sym c.is_old.ensures ∙ c.if-is_old.false)

pub returns : goal.returns
returns c = (
  λ e. absurd (false≢true e),
  λ some. absurd (no_router (λ (t : Turn). is_old t.tag) c.args.turns.now c.loop-turn.turn-index c.loop-turn-test.false c.loop-turn.invariant some),
)
