-- What the laws of timetables say (Vanbever et al., SIGCOMM 2011).
use Rattle.std.specs.Prelude.{◌≡◌, ℕ, ◌+◌, ◌<◌, ◌≤◌, ◌↔◌, ◌⊎◌, List, ◌∷◌, Contains}
use Rattle.std.specs.Prelude.{length}
use Rattle.order_core.specs.Rankings.{rank_of}
use Rattle.order_core.specs.Turns.{old_routers, new_routers, HasBothTags}
use Rattle.order_core.specs.declared.turn.Tag.TheVariants as tag
use Rattle.order_core.specs.declared.turn.Turn.{Turn}
use Rattle.igp_theory.specs.Changes.{Change, first, second}
use Rattle.igp_theory.specs.Forwarding.{Steps}
use Rattle.igp_theory.specs.LoopLaws.{AreSoundEnds}
use Rattle.igp_theory.specs.Loops.{Fault, loop, IsTag, AroundRing, IsLoop, Arises}
use Rattle.igp_theory.specs.Migrations.{Migration}
use Rattle.igp_theory.specs.Phases.{State}
use Rattle.igp_theory.specs.States.{Follows, IsSound}
use Rattle.igp_theory.specs.Timetables.{Timetable, IsTimetable, MayPrecede, IsLeft, IsRun, IsStateOf, IsStateOfWave, IsSoundThroughout, state_before}
use Rattle.igp_theory.specs.Timetables.{router_times, change_times}
use Rattle.igp_theory.specs.WaveFaults.{StepsInSome, IsUnsoundInSome, IsTimesFault}
use Rattle.igp_theory.specs.declared.phase.Phase.{Phase}
use Rattle.igp_theory.specs.declared.phase.Phase.TheVariants.{Old, Middle, New}

-- The states of a timetable

-- a state of one of the waves
pub record IsStateOfSomeWave (n : ℕ) (time : Timetable) (state : State) : Type 0 where
  pub wave : ℕ
  pub from_one : 1 ≤ wave
  pub of_wave : IsStateOfWave n time wave state

-- the states of a timetable are exactly those of its waves: every combination of phases of one wave, each from that in which
-- the wave begins up to that in which it ends, is a state of some run, and there is no other
abbrev pub StatesAreThoseOfWaves : Type 0
StatesAreThoseOfWaves =
    (n : ℕ) (start : State) (time : Timetable) (state : State) → IsTimetable n start time →
    IsStateOf n start time state ↔ IsStateOfSomeWave n time state

-- so a migration is sound throughout exactly where every state of each wave is sound
abbrev pub SoundWaveByWave : Migration → Type 0
SoundWaveByWave move =
    (time : Timetable) → IsTimetable (length move.net) move.start time →
    IsSoundThroughout move time ↔ ((state : State) → IsStateOfSomeWave (length move.net) time state → IsSound move state)

-- a timetable of which no two changes may each stand before the other has one run
abbrev pub TimetablesHaveOneRun : Type 0
TimetablesHaveOneRun =
    (n : ℕ) (time : Timetable) (run other : List Change) →
    ((c d : Change) → IsLeft n time c → IsLeft n time d → MayPrecede time c d → MayPrecede time d c → ⊥) →
    IsRun n time run → IsRun n time other → run ≡ other

-- Loops wave by wave

-- router u steps to h when wave w begins, or when it ends
abbrev pub StepsRound : Migration → Timetable → ℕ → ℕ → ℕ → ℕ → Type 0
StepsRound move time a w u h = Steps move u (state_before time w u) a h ⊎ Steps move u (state_before time (w + 1) u) a h

-- each router of a ring does so to the next
abbrev pub GoesRound : Migration → Timetable → ℕ → ℕ → List Turn → Type 0
GoesRound move time a w ring = AroundRing (λ (r s : Turn). StepsRound move time a w r.router s.router) ring

-- a loop arises in a state of wave w
pub record ArisesInWave (move : Migration) (time : Timetable) (w a : ℕ) (ring : List Turn) : Type 0 where
  pub state : State
  pub of_wave : IsStateOfWave (length move.net) time w state
  pub arises : Arises move state a ring

-- it does so exactly where each of its routers steps to the next when the wave begins or when it ends
abbrev pub LoopsAriseInWaves : Migration → Type 0
LoopsAriseInWaves move =
    (time : Timetable) (w a : ℕ) (ring : List Turn) → IsTimetable (length move.net) move.start time → IsLoop move a ring →
    ArisesInWave move time w a ring ↔ GoesRound move time a w ring

-- over the states of a wave a router may have hops of two phases. Where a list of steps over all these hops returns to its
-- first router, some state of the wave is unsound for the address: the list contains a ring of distinct routers, and each of
-- them keeps one phase that makes its step
abbrev pub ReturnsInWavesAreUnsound : Migration → Type 0
ReturnsInWavesAreUnsound move =
    (time : Timetable) (w a u h : ℕ) (hops : List ℕ) →
    Follows (StepsInSome move (IsStateOfWave (length move.net) time w) a) u (h ∷ hops) u →
    IsUnsoundInSome move (IsStateOfWave (length move.net) time w) a

-- The wave in which a step is switched

-- an Old turn's step to the next router is there in the waves up to k alone, a New turn's from k on alone
pub record SwitchesIn (move : Migration) (time : Timetable) (a : ℕ) (turn : Turn) (next k : ℕ) : Type 0 where
  pub from_one : 1 ≤ k
  pub old : turn.tag ≡ tag.Old → (w : ℕ) → 1 ≤ w → StepsRound move time a w turn.router next ↔ (w ≤ k)
  pub new : turn.tag ≡ tag.New → (w : ℕ) → 1 ≤ w → StepsRound move time a w turn.router next ↔ (k ≤ w)

-- where routers are ranked, a turn of a loop is switched in the wave of its router
abbrev pub RoutersSwitch : Migration → Type 0
RoutersSwitch move =
    (ranks : List ℕ) (a : ℕ) (turn : Turn) (next : ℕ) → IsTag move a turn next →
    SwitchesIn move (router_times move.start ranks) a turn next (rank_of ranks turn.router + 1)

-- so where routers are ranked a loop arises in a state of wave w exactly where it stands round it: its routers tagged New
-- stand in waves up to w, and those tagged Old in waves from w on
pub record StandsRoundWave (ranks : List ℕ) (w : ℕ) (ring : List Turn) : Type 0 where
  pub new : (u : ℕ) → Contains (new_routers ring) u → rank_of ranks u + 1 ≤ w
  pub old : (u : ℕ) → Contains (old_routers ring) u → w ≤ rank_of ranks u + 1

abbrev pub RankedLoopsAriseInWaves : Migration → Type 0
RankedLoopsAriseInWaves move =
    (ranks : List ℕ) (w a : ℕ) (ring : List Turn) → 1 ≤ w → IsLoop move a ring →
    ArisesInWave move (router_times move.start ranks) w a ring ↔ StandsRoundWave ranks w ring

-- a router in Middle steps for an address as in a phase
abbrev pub MiddleStepsAs : Migration → ℕ → ℕ → Phase → Type 0
MiddleStepsAs move u a phase = (h : ℕ) → Steps move u Middle a h ↔ Steps move u phase a h

-- the change from which on a router steps for an address as in New
pub data IsSwitch (move : Migration) (u a : ℕ) : Change → Type 0 where
  at_first : MiddleStepsAs move u a New → IsSwitch move u a (first u)
  at_second : MiddleStepsAs move u a Old → ¬ MiddleStepsAs move u a New → IsSwitch move u a (second u)

-- where changes are ranked, each router's first no later than its second, a turn of a router that begins in Old is switched in
-- the wave of the change from which on its router steps as in New
abbrev pub ChangesSwitch : Migration → Type 0
ChangesSwitch move =
    (ranks : List ℕ) (a : ℕ) (turn : Turn) (next : ℕ) (c : Change) → move.start turn.router ≡ Old → IsTag move a turn next →
    change_times ranks (first turn.router) ≤ change_times ranks (second turn.router) → IsSwitch move turn.router a c →
    SwitchesIn move (change_times ranks) a turn next (change_times ranks c)

-- a router has one such change
abbrev pub OneSwitch : Migration → Type 0
OneSwitch move = (u a : ℕ) (c d : Change) → IsSwitch move u a c → IsSwitch move u a d → c ≡ d

-- Loops decide

-- each turn of a ring is switched in the wave that is given for its router
abbrev pub AreSwitched : Migration → Timetable → ℕ → (ℕ → ℕ) → List Turn → Type 0
AreSwitched move time a switch ring = AroundRing (λ (r s : Turn). SwitchesIn move time a r s.router (switch r.router)) ring

-- some Old turn is switched in an earlier wave than some New turn
pub record SwitchesSomeOldFirst (switch : ℕ → ℕ) (ring : List Turn) : Type 0 where
  pub old : ℕ
  pub new : ℕ
  pub is_old : Contains (old_routers ring) old
  pub is_new : Contains (new_routers ring) new
  pub earlier : switch old < switch new

-- a migration that is sound throughout does so for each loop with both tags
abbrev pub SoundSwitchesOldFirst : Migration → Type 0
SoundSwitchesOldFirst move =
    (time : Timetable) (a : ℕ) (ring : List Turn) (switch : ℕ → ℕ) → IsSoundThroughout move time → IsLoop move a ring →
    HasBothTags ring → AreSwitched move time a switch ring → SwitchesSomeOldFirst switch ring

-- the waves in which the turns of a ring are switched, some Old one before some New one
pub record IsBroken (move : Migration) (time : Timetable) (a : ℕ) (ring : List Turn) : Type 0 where
  pub switch : ℕ → ℕ
  pub each : AreSwitched move time a switch ring
  pub first : SwitchesSomeOldFirst switch ring

-- between sound ends a migration that does so for each loop with both tags is sound throughout
abbrev pub OldFirstIsSound : Migration → Type 0
OldFirstIsSound move =
    (time : Timetable) → AreSoundEnds move → IsTimetable (length move.net) move.start time →
    ((a : ℕ) (ring : List Turn) → IsLoop move a ring → HasBothTags ring → IsBroken move time a ring) → IsSoundThroughout move time

-- Faults

-- the fault of a wave is a loop of the network with both tags, and no missing step, and it arises in a state of the wave
pub record IsLoopOfWave (move : Migration) (time : Timetable) (w : ℕ) (fault : Fault) : Type 0 where
  pub address : ℕ
  pub ring : List Turn
  pub is : fault ≡ loop address ring
  pub is_loop : IsLoop move address ring
  pub both : HasBothTags ring
  pub arises : ArisesInWave move time w address ring

-- between sound ends the fault of a timetable is such a loop
abbrev pub TimesFaultsBetweenSoundEndsAreLoops : Migration → Type 0
TimesFaultsBetweenSoundEndsAreLoops move =
    (time : Timetable) (w : ℕ) (fault : Fault) → AreSoundEnds move → IsTimetable (length move.net) move.start time →
    IsTimesFault move time w fault → IsLoopOfWave move time w fault
