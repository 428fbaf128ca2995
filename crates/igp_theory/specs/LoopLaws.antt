-- What the laws of loops say: state by state, and of wave lists (Vanbever et al., SIGCOMM 2011).
use Rattle.std.specs.Prelude.{◌≡◌, ◌≢◌, ℕ, ◌<◌, ◌≤◌, ◌↔◌, List, length, Contains}
use Rattle.order_core.specs.Rankings.{IsRanking}
use Rattle.order_core.specs.Turns.{old_routers, new_routers, HasBothTags, RanksSomeOldFirst}
use Rattle.order_core.specs.declared.turn.Turn.{Turn}
use Rattle.igp_theory.specs.Loops.{IsLoop, Arises, Fault, loop, IsFault}
use Rattle.igp_theory.specs.Migrations.{Migration}
use Rattle.igp_theory.specs.Phases.{State, made_in, all_new}
use Rattle.igp_theory.specs.States.{IsSound}
use Rattle.igp_theory.specs.Waves.{AreSeamlessWaves}
use Rattle.igp_theory.specs.declared.phase.Phase.TheVariants.{Old, New}

-- State by state

-- no router of the network is in an earlier phase than at the start
abbrev pub IsFromStart : Migration → State → Type 0
IsFromStart move state = (u : ℕ) → u < length move.net → made_in (move.start u) ≤ made_in (state u)

-- every router tagged Old is at its start, and every router tagged New is in New
pub record AgreesWithTags (move : Migration) (state : State) (ring : List Turn) : Type 0 where
  pub old : (u : ℕ) → Contains (old_routers ring) u → state u ≡ move.start u
  pub new : (u : ℕ) → Contains (new_routers ring) u → state u ≡ New

-- there the loop arises, whatever phases from the start on the other routers are in
abbrev pub LoopsArise : Migration → Type 0
LoopsArise move =
    (state : State) (a : ℕ) (ring : List Turn) → IsFromStart move state → IsLoop move a ring → AgreesWithTags move state ring →
    Arises move state a ring

-- a state in which a loop arises isn't sound
abbrev pub ArisingLoopsAreUnsound : Migration → Type 0
ArisingLoopsAreUnsound move =
    (state : State) (a : ℕ) (ring : List Turn) → IsLoop move a ring → Arises move state a ring →
    IsSound move state → ⊥

-- the ends are sound: the start, and the state in which every router is New
pub record AreSoundEnds (move : Migration) : Type 0 where
  pub first : IsSound move move.start
  pub last : IsSound move all_new

-- a loop of the network that arises in a state, with a turn tagged Old and one tagged New: none of its routers tagged Old
-- is in New there, and none tagged New is at its start
pub record IsLoopOfState (move : Migration) (state : State) (a : ℕ) (ring : List Turn) : Type 0 where
  pub is_loop : IsLoop move a ring
  pub arises : Arises move state a ring
  pub both : HasBothTags ring
  pub old_early : (u : ℕ) → Contains (old_routers ring) u → state u ≢ New
  pub new_late : (u : ℕ) → Contains (new_routers ring) u → state u ≢ move.start u

-- a fault is such a loop, and no missing step
pub record IsLoopFault (move : Migration) (state : State) (fault : Fault) : Type 0 where
  pub address : ℕ
  pub ring : List Turn
  pub is : fault ≡ loop address ring
  pub of_state : IsLoopOfState move state address ring

-- between sound ends the fault of an unsound state is a loop that arises there, with both tags
abbrev pub FaultsBetweenSoundEndsAreLoops : Migration → Type 0
FaultsBetweenSoundEndsAreLoops move =
    (state : State) (fault : Fault) → AreSoundEnds move → IsFromStart move state → IsFault move state fault →
    IsLoopFault move state fault

-- between sound ends every loop of the network has both tags
abbrev pub LoopsBetweenSoundEndsHaveBothTags : Migration → Type 0
LoopsBetweenSoundEndsHaveBothTags move =
    (a : ℕ) (ring : List Turn) → AreSoundEnds move → IsLoop move a ring → HasBothTags ring

-- every router begins in Old
abbrev pub BeginsOld : Migration → Type 0
BeginsOld move = (u : ℕ) → move.start u ≡ Old

-- Wave lists

-- a wave list puts some router tagged Old of each loop with both tags in an earlier wave than some router tagged New
abbrev pub PutsSomeOldFirstInEach : Migration → List ℕ → Type 0
PutsSomeOldFirstInEach move ranks =
    (a : ℕ) (ring : List Turn) → IsLoop move a ring → HasBothTags ring → RanksSomeOldFirst ranks ring

-- whatever the ends, a wave list that is seamless does so
abbrev pub SeamlessWavesPutOldFirst : Migration → Type 0
SeamlessWavesPutOldFirst move = (ranks : List ℕ) → AreSeamlessWaves move ranks → PutsSomeOldFirstInEach move ranks

-- between sound ends a wave list is seamless exactly where it does so
abbrev pub WavesAreSeamlessByLoops : Migration → Type 0
WavesAreSeamlessByLoops move =
    (ranks : List ℕ) → AreSoundEnds move → IsRanking (length move.net) ranks →
    AreSeamlessWaves move ranks ↔ PutsSomeOldFirstInEach move ranks
