use Rattle.std.proofs.Common.{◌++◌, ◌∙◌, sym, subst}
use Rattle.std.proofs.lemmas.Bool.{false≢true}
use Rattle.std.proofs.lemmas.List.{take_all}
use Rattle.order_core.specs.Orders.{AreDistinct}
use Rattle.step_scripts.specs.WaveFiles.{all_in}
use Rattle.step_scripts.proofs.WaveLists.{distinct_more}
use Rattle.step_scripts.proofs.waves_reading.are_new.Goals as goal

pub loop-place-preserved : goal.loop-place-preserved
loop-place-preserved c =
    distinct_more (all_in c.args.seats.now) c.args.routers.now c.loop-place.place _ c.loop-place-test.true c.loop-place.invariant
    (λ has. false≢true (sym c.if-stood_before.false ∙ c.stood_before.ensures.1 has))

pub returns : goal.returns
returns c =
    subst (λ l. AreDistinct (all_in c.args.seats.now ++ l)) (take_all c.loop-place.place c.args.routers.now c.loop-place-test.false) c.loop-place.invariant
