-- The timetable that the waves of the routers' changes make.
use Rattle.std.specs.Prelude.{ℕ, nat_lt, if◌then◌else◌, List, slice_index_or}
use Rattle.igp_theory.specs.Changes.{first, second}
use Rattle.igp_theory.specs.Timetables.{Timetable}
use Rattle.igp_theory.specs.declared.phase.Phase.{Phase}
use Rattle.igp_theory.specs.declared.phase.Phase.TheVariants.{Old, Middle, New}
use Rattle.loop_finder.specs.declared.times.ChangeWaves.{ChangeWaves}

-- the waves of router u's changes; past the list both are the first wave, as the rank past a ranking is 0
abbrev pub waves_of : List ChangeWaves → ℕ → ChangeWaves
waves_of times u = slice_index_or times u (record { first = 1; second = 1 })

-- the timetable by them
abbrev pub times_in : List ChangeWaves → Timetable
times_in times (first u) = (waves_of times u).first
times_in times (second u) = (waves_of times u).second

-- the phase of a router with these waves when wave w begins
abbrev pub phase_before : ChangeWaves → ℕ → Phase
phase_before waves w = if nat_lt waves.second w then New else if nat_lt waves.first w then Middle else Old
