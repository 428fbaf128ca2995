-- What the laws of the faults of waves say.
use Rattle.std.specs.Prelude.{◌≡◌, ℕ, ◌↔◌, List}
use Rattle.net_addr.specs.Addresses.{Block}
use Rattle.igp_theory.specs.Laws.{HaveSameTables}
use Rattle.igp_theory.specs.Loops.{Fault, IsFault}
use Rattle.igp_theory.specs.Migrations.{Migration, retabled}
use Rattle.igp_theory.specs.Routes.{Tables}
use Rattle.igp_theory.specs.Phases.{State}
use Rattle.igp_theory.specs.Timetables.{Timetable, IsSoundThroughout}
use Rattle.igp_theory.specs.WaveFaults.{IsFaultOver, IsTimesFault}
use Rattle.igp_theory.specs.WaveLaws.{Delivers}
use Rattle.igp_theory.specs.Waves.{AreSeamlessWaves}

-- One fault

-- a set of states has at most one fault
abbrev pub FaultsOverAreUnique : Migration → (State → Type 0) → Type 0
FaultsOverAreUnique move states =
    (fault other : Fault) → IsFaultOver move states fault → IsFaultOver move states other → fault ≡ other

-- the fault of a single state, as a set of one, is the state's fault
abbrev pub FaultsOverOneAreFaults : Migration → Type 0
FaultsOverOneAreFaults move =
    (state : State) (fault : Fault) →
    IsFaultOver move (λ (other : State). other ≡ state) fault ↔ IsFault move state fault

-- a timetable has at most one fault: one wave, and one router or one ring with its tags
abbrev pub TimesFaultsAreUnique : Migration → Type 0
TimesFaultsAreUnique move =
    (time : Timetable) (w v : ℕ) (fault other : Fault) →
    IsTimesFault move time w fault → IsTimesFault move time v other → (w ≡ v) × (fault ≡ other)

-- a migration with a fault isn't sound throughout
abbrev pub TimesFaultsAreUnsound : Migration → Type 0
TimesFaultsAreUnsound move =
    (time : Timetable) (w : ℕ) (fault : Fault) → IsTimesFault move time w fault → IsSoundThroughout move time → ⊥

-- Tables with the same entries

-- a state delivers the same packets
abbrev pub SameDeliveries : Migration → Tables → Tables → Type 0
SameDeliveries move other_old other_new =
    (state : State) (a : ℕ) (p : Block) → HaveSameTables move other_old other_new →
    Delivers move state a p ↔ Delivers (retabled move other_old other_new) state a p

-- the same wave lists are seamless
abbrev pub SameSeamlessWaves : Migration → Tables → Tables → Type 0
SameSeamlessWaves move other_old other_new =
    (ranks : List ℕ) → HaveSameTables move other_old other_new →
    AreSeamlessWaves move ranks ↔ AreSeamlessWaves (retabled move other_old other_new) ranks

-- a set of states has the same fault
abbrev pub SameFaultsOver : Migration → Tables → Tables → (State → Type 0) → Type 0
SameFaultsOver move other_old other_new states =
    (fault : Fault) → HaveSameTables move other_old other_new →
    IsFaultOver move states fault ↔ IsFaultOver (retabled move other_old other_new) states fault

-- a timetable has the same fault
abbrev pub SameTimesFaults : Migration → Tables → Tables → Type 0
SameTimesFaults move other_old other_new =
    (time : Timetable) (w : ℕ) (fault : Fault) → HaveSameTables move other_old other_new →
    IsTimesFault move time w fault ↔ IsTimesFault (retabled move other_old other_new) time w fault
