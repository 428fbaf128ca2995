use Rattle.igp_theory.proofs.TimetableStates.{state_of_wave, wave_is_reached}
use Rattle.igp_theory.proofs.timetable_laws.sound_wave_by_wave.Goals as goal

pub returns : goal.returns
returns g c time table = (
  λ sound state some. sound.sound state (wave_is_reached table state some),
  λ sound. record { table = table; sound = λ state is. sound state (state_of_wave table state is) },
)
