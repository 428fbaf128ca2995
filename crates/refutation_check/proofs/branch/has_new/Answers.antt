use Rattle.std.proofs.Common.{arith}
use Rattle.std.proofs.lemmas.Grind.{common_steps}
use Rattle.std.proofs.Common.{◌≡◌, false, sym, ◌∙◌}
use Rattle.std.proofs.lemmas.Bool.{false≢true}
use Rattle.std.proofs.lemmas.List.Elements.{All-more}
use Rattle.order_core.specs.Turns.{is_new}
use Rattle.order_core.specs.declared.turn.Tag.TheVariants.{Old}
use Rattle.order_core.specs.declared.turn.Turn.{Turn}
use Rattle.refutation_check.proofs.Kept.{some_router, no_router}
use Rattle.refutation_check.proofs.branch.has_new.Goals as goal

pub returns-then-is_new : goal.returns-then-is_new
returns-then-is_new c = grind (arith, common_steps, some_router)

pub loop-turn-preserved : goal.loop-turn-preserved
loop-turn-preserved c =
    All-more (λ (t : Turn). is_new t.tag ≡ false) c.args.turns.now c.loop-turn.turn-index (record { router = 0; tag = Old }) c.loop-turn-test.true
    c.loop-turn.invariant (sym c.is_new.ensures ∙ c.if-is_new.false)

pub returns : goal.returns
returns c = (
  λ e. absurd (false≢true e),
  λ some. absurd (no_router (λ (t : Turn). is_new t.tag) c.args.turns.now c.loop-turn.turn-index c.loop-turn-test.false c.loop-turn.invariant some),
)
