-- What is found of an order, of a wave list or of a timetable: none where it is seamless, else its first unsound state, or its first
-- wave with one, and the fault of that.
use Rattle.std.specs.Prelude.{ℕ, List, Option, None, Some}
use Rattle.igp_theory.specs.Loops.{IsFault, IsFirstFault}
use Rattle.igp_theory.specs.Migrations.{Migration}
use Rattle.igp_theory.specs.States.{IsSeamless, IsSound}
use Rattle.igp_theory.specs.Timetables.{IsSoundThroughout, Timetable, router_times}
use Rattle.igp_theory.specs.declared.phase.Phase.{Phase}
use Rattle.igp_theory.specs.WaveFaults.{IsTimesFault}
use Rattle.igp_theory.specs.Waves.{AreSeamlessWaves}
use Rattle.plan_theory.specs.Plans.{fault_told}
use Rattle.plan_theory.specs.declared.planned.EndFault.{EndFault}

abbrev pub IsFirstUnsoundState : Migration → List ℕ → Option (ℕ × EndFault) → Type 0
IsFirstUnsoundState move order None = IsSeamless move order
IsFirstUnsoundState move order (Some found) = IsFirstFault move order found.0 (fault_told found.1)

abbrev pub IsFirstUnsoundWave : Migration → List ℕ → Option (ℕ × EndFault) → Type 0
IsFirstUnsoundWave move ranks None = AreSeamlessWaves move ranks
IsFirstUnsoundWave move ranks (Some found) = IsTimesFault move (router_times move.start ranks) found.0 (fault_told found.1)

abbrev pub IsFirstUnsoundTime : Migration → Timetable → Option (ℕ × EndFault) → Type 0
IsFirstUnsoundTime move time None = IsSoundThroughout move time
IsFirstUnsoundTime move time (Some found) = IsTimesFault move time found.0 (fault_told found.1)

-- what is found of the state in which every router is in this phase: none where it is sound, else its fault
abbrev pub IsEndFault : Migration → Phase → Option EndFault → Type 0
IsEndFault move phase None = IsSound move (λ _. phase)
IsEndFault move phase (Some fault) = IsFault move (λ _. phase) (fault_told fault)
