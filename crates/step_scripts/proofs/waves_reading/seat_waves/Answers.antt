use Rattle.std.proofs.Common.{arith}
use Rattle.std.proofs.lemmas.Grind.{common_steps}
use Rattle.std.proofs.Common.{◌∙◌, ap, sym}
use Rattle.step_scripts.specs.WaveLines.{wave_on}
use Rattle.step_scripts.proofs.Reading.{all_waves, first_waves, one_more, unfit_at}
use Rattle.step_scripts.proofs.waves_reading.seat_waves.Goals as goal

pub returns-in_default-clause-ok : goal.returns-in_default-clause-ok
returns-in_default-clause-ok c =
    first_waves c.args.net.now c.routers.ensures.network.ascending c.args.version c.args.text.now c.args.entries.now c.requires.entries
    c.loop-line.line-index _ c.loop-line.seats
    c.loop-line-test.true c.loop-line.invariant (ap (wave_on c.args.version) (sym c.bytes_at.ensures) ∙ sym c.in_ok-names.ensures ∙ c.in_default.is)

pub returns-in-Some-2-clause-err : goal.returns-in-Some-2-clause-err
returns-in-Some-2-clause-err c =
    unfit_at c.args.net.now c.routers.ensures.network.ascending c.args.version c.args.text.now c.args.entries.now c.requires.entries
    c.loop-line.line-index _ c.loop-line.seats
    c.in-Some.names c.loop-line-test.true c.loop-line.invariant (ap (wave_on c.args.version) (sym c.bytes_at.ensures)
    ∙ sym c.in_ok-names.ensures ∙ c.in-Some.is)
    c.in-Some-2.kind (rw c.in-Some-2.is at c.in_ok-kind.ensures)

pub loop-line-preserved : goal.loop-line-preserved
loop-line-preserved c = grind (arith, common_steps, one_more)

pub returns-clause-ok : goal.returns-clause-ok
returns-clause-ok c =
    all_waves c.args.net.now c.routers.ensures.network.ascending c.args.version c.args.text.now c.args.entries.now c.requires.entries
    c.loop-line.line-index c.loop-line.seats
    c.loop-line.auto.line-index-end c.loop-line-test.false c.loop-line.invariant
