use Rattle.observed_night.specs.ToldStates.{elsewhere, in_done_wave}
use Rattle.observed_night.proofs.told.told_phase.Goals as goal

pub returns-then-is_wave_done : goal.returns-then-is_wave_done
returns-then-is_wave_done c = in_done_wave (c.is_wave_done.ensures.0 c.if-is_wave_done.true)

pub returns : goal.returns
returns c = elsewhere c.in-Some.phase (λ wave.
    let yes = c.is_wave_done.ensures.1 wave in
    let not = c.if-is_wave_done.false in
    cc) c.in-Some.ensures
