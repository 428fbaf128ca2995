-- What is told of a wave list between sound ends.
use Rattle.std.proofs.Common.{◌≡◌, ℕ, List, subst, sym}
use Rattle.igp_theory.specs.LoopLaws.{AreSoundEnds}
use Rattle.igp_theory.specs.Migrations.{Migration}
use Rattle.igp_theory.specs.Timetables.{router_times}
use Rattle.igp_theory.specs.WaveFaults.{IsTimesFault}
use Rattle.loop_finder.specs.Faults.{told_fault}
use Rattle.loop_finder.specs.declared.fault.Fault.{Fault}
use Rattle.loop_finder.specs.declared.fault.Fault.TheVariants.{Loop, Missing}
use Rattle.order_search.specs.Meanings.{Break, SameMeaning}
use Rattle.order_search.proofs.SameMeanings.{SameMeaning-itself}
use Rattle.plan_theory.specs.WavesMeaning.{waves_meaning}
use Rattle.plan_theory.proofs.WaveBreaks.{wave_fault_breaks, no_step_lacks}
use Rattle.order_core.specs.declared.turn.Turn.{Turn}
use Rattle.wave_oracle.specs.steps.ToldLoops.{IsToldLoop}

-- what is told is a loop
pub told_is_loop : (move : Migration) (ranks : List ℕ) (wave : ℕ) (fault : Fault) (ring : List Turn) → AreSoundEnds move →
    IsTimesFault move (router_times move.start ranks) wave (told_fault fault ring) → IsToldLoop fault
told_is_loop move ranks wave (Loop address) ring ends told = tt
told_is_loop move ranks wave (Missing address router) ring ends told = no_step_lacks move ranks wave address router ends told

-- which breaks the wave list
pub told_breaks : (move : Migration) (ranks : List ℕ) (wave : ℕ) (fault : Fault) (address : ℕ) (ring : List Turn) → AreSoundEnds move →
    IsTimesFault move (router_times move.start ranks) wave (told_fault fault ring) → fault ≡ Loop address →
    Break (waves_meaning move) ranks address ring
told_breaks move ranks wave fault address ring ends told is =
    let whole = λ (f : Fault). IsTimesFault move (router_times move.start ranks) wave (told_fault f ring) in
    wave_fault_breaks move ranks wave address ring ends (subst whole is told)

-- what is meant stays where what is mixed does
pub waves_stay : (move after : Migration) → after ≡ move → SameMeaning (waves_meaning move) (waves_meaning after)
waves_stay move after same = subst (λ (m : Migration). SameMeaning (waves_meaning move) (waves_meaning m)) (sym same) (SameMeaning-itself (waves_meaning move))
