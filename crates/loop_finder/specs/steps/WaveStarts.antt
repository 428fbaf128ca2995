-- The states in which waves begin, and the classes of parts that are calm in a wave.
use Rattle.std.specs.Prelude.{◌≡◌, ℕ, ◌<◌, true, List, [], length, slice_index, slice_index_or, All}
use Rattle.igp_theory.specs.Timetables.{Timetable, state_before}
use Rattle.igp_theory.specs.declared.phase.Phase.{Phase}
use Rattle.igp_theory.specs.Phases.{state_in}
use Rattle.loop_finder.specs.Parts.{ClassPart}
use Rattle.loop_finder.specs.Mixes.{Mix}
use Rattle.loop_finder.specs.Soundness.{Sound}

-- n routers have the phases in which they begin wave w
abbrev pub BeginWave : ℕ → Timetable → ℕ → List Phase → Type 0
BeginWave n time w phases = (u : ℕ) → u < n → state_in phases u ≡ state_before time w u

-- the state in which wave w begins is sound
abbrev pub BeginsSound : Mix → Timetable → ℕ → Type 0
BeginsSound m time w = Sound m (state_before time w)

-- something holds of the classes of the parts in which every router moves and whose pieces are calm in wave w
abbrev pub AreClearParts : (ℕ → Type 0) → List ClassPart → List (List ℕ) → List ℕ → ℕ → Type 0
AreClearParts Clear parts made calm w = (p : ℕ) (d : ClassPart) → p < length parts → (slice_index_or parts p d).moves ≡ true
    → All (λ q. w < slice_index calm q) (slice_index_or made p []) → Clear (slice_index_or parts p d).atom
