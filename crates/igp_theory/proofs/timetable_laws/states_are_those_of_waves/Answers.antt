use Rattle.igp_theory.proofs.TimetableStates.{state_of_wave, wave_is_reached}
use Rattle.igp_theory.proofs.timetable_laws.states_are_those_of_waves.Goals as goal

pub returns : goal.returns
returns c n start time state table = (state_of_wave table state, wave_is_reached table state)
