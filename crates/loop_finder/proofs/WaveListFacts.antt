-- A timetable is looked at wave by wave.
use Rattle.std.proofs.lemmas.Grind.{common_steps}
use Rattle.std.proofs.Common.{◌≡◌, ℕ, ◌+◌, ◌<◌, ◌≤◌, ◌↔◌, List, length, Option, Some, None, IfSome, IfNone, IsNone, inl, inr, refl, sym, subst, arith}
use Rattle.std.proofs.lemmas.Bool.{false≢true, cases_lt}
use Rattle.order_core.specs.Rankings.{IsRanking}
use Rattle.order_core.specs.declared.turn.Turn.{Turn}
use Rattle.igp_theory.specs.Changes.{second}
use Rattle.igp_theory.specs.Loops.{Fault as WholeFault}
use Rattle.igp_theory.specs.Migrations.{Migration}
use Rattle.igp_theory.specs.Phases.{State}
use Rattle.igp_theory.specs.States.{IsSound}
use Rattle.igp_theory.specs.TimetableLaws.{IsStateOfSomeWave}
use Rattle.igp_theory.specs.Timetables.{Timetable, IsTimetable, IsStateOfWave, IsSoundThroughout, router_times}
use Rattle.igp_theory.specs.WaveFaults.{IsTimesFault}
use Rattle.igp_theory.specs.Waves.{AreSeamlessWaves}
use Rattle.igp_theory.proofs.Phases.{made_in_few}
use Rattle.igp_theory.proofs.Switches.{routers_have_times}
use Rattle.igp_theory.proofs.Timetables.{before_new}
use Rattle.igp_theory.proofs.TimetableStates.{state_of_wave}
use Rattle.igp_theory.proofs.WaveFaultLaws.{times_fault_unsound}
use Rattle.loop_finder.specs.Faults.{told_fault}
use Rattle.loop_finder.specs.Mixes.{Mix}
use Rattle.loop_finder.specs.steps.Times.{IsInOrder}
use Rattle.loop_finder.specs.steps.Verdicts.{SoundWave, SoundWavesBefore, SoundWaves, FaultyWave, FaultyWaves}
use Rattle.loop_finder.specs.declared.fault.Fault.{Fault}

-- behind the last wave there is the state in which it ends alone
past_last : (n : ℕ) (time : Timetable) (last v : ℕ) (state : State) → IsInOrder time → ((u : ℕ) → u < n → time (second u) ≤ last) → last < v →
    IsStateOfWave n time v state → IsStateOfWave n time last state
past_last n time last v state order most after of_wave u within = grind (arith, common_steps, before_new, made_in_few)

-- so where the waves up to the last one are sound, all are
pub sound_to_last : (m : Mix) (time : Timetable) (last w : ℕ) → IsInOrder time → 1 ≤ last → ((u : ℕ) → u < length m.net → time (second u) ≤ last) →
    last < w → SoundWavesBefore m time w → SoundWaves m time
sound_to_last m time last w order some most past sound state is = elim (cases_lt is.wave w) [
  | inl before ↦ sound is.wave is.from_one before state is.of_wave
  | inr after ↦ sound last some past state
      (past_last (length m.net) time last is.wave state order most (omega (arith, past, after)) is.of_wave)
]

-- the waves before the next one are sound too where this one is
pub sound_more : (m : Mix) (time : Timetable) (w : ℕ) → SoundWavesBefore m time w → SoundWave m time w → SoundWavesBefore m time (w + 1)
sound_more m time w before here v some less = elim (cases_lt v w) [
  | inl sooner ↦ before v some sooner
  | inr later ↦ let is : w ≡ v = omega (arith, less, later) in subst (SoundWave m time) is here
]

-- the fault of the first wave that isn't sound
pub first_fault : (m : Mix) (time : Timetable) (w : ℕ) (fault : WholeFault) → 1 ≤ w → SoundWavesBefore m time w → FaultyWave m time w fault →
    FaultyWaves m time w fault
first_fault m time w fault some before here = record { from_one = some; before = before; here = here }

-- no fault is told exactly where the migration is sound throughout
pub none_throughout : (move : Migration) (time : Timetable) (result : Option (ℕ × Fault)) (turns : List Turn) →
    IsTimetable (length move.net) move.start time
    → IfNone result ((state : State) → IsStateOfSomeWave (length move.net) time state → IsSound move state)
    → IfSome result (λ found. IsTimesFault move time found.0 (told_fault found.1 turns)) → IsNone result ↔ IsSoundThroughout move time
none_throughout move time None turns table sound fault = (
  λ none. record { table = table; sound = λ state is. sound state (state_of_wave table state is) },
  λ throughout. refl,
)
none_throughout move time (Some found) turns table sound fault = (
  λ none. absurd (false≢true (sym none)),
  λ throughout. absurd (times_fault_unsound move time found.0 (told_fault found.1 turns) fault throughout),
)

-- and of ranked routers exactly where their wave list is seamless
pub none_seamless : (move : Migration) (ranks : List ℕ) (result : Option (ℕ × Fault)) (turns : List Turn) → IsRanking (length move.net) ranks
    → IfNone result ((state : State) → IsStateOfSomeWave (length move.net) (router_times move.start ranks) state → IsSound move state)
    → IfSome result (λ found. IsTimesFault move (router_times move.start ranks) found.0 (told_fault found.1 turns)) →
    IsNone result ↔ AreSeamlessWaves move ranks
none_seamless move ranks result turns ranking sound fault =
    let told = none_throughout move (router_times move.start ranks) result turns (routers_have_times (length move.net) move.start ranks) sound fault in
    (λ none. record { waves = ranking; throughout = told.0 none }, λ seamless. told.1 seamless.throughout)
