-- The waves in which no walk over a part's steps returns.
use Rattle.std.specs.Prelude.{◌≡◌, ℕ, ◌+◌, ◌<◌, ◌≤◌, ◌⊎◌, true, List, length, slice_index, slice_index_or, Contains}
use Rattle.igp_theory.specs.Changes.{first, second}
use Rattle.igp_theory.specs.Timetables.{Timetable, state_before}
use Rattle.loop_finder.specs.Parts.{ClassPart, part_hops}
use Rattle.loop_finder.specs.Returns.{NeverReturnsTo}

-- the steps of a part in the states of wave w: those of the phases in which the routers begin it, and in which they end it
abbrev pub WaveStep : ClassPart → Timetable → ℕ → ℕ → ℕ → Type 0
WaveStep part time w u h =
    Contains (part_hops part u (state_before time w u)) h ⊎ Contains (part_hops part u (state_before time (w + 1) u)) h

-- router u makes a change in wave w
abbrev pub ChangesIn : Timetable → ℕ → ℕ → Type 0
ChangesIn time w u = (time (first u) ≡ w) ⊎ (time (second u) ≡ w)

-- where it does so, no walk over the steps of the wave returns to it
pub record IsUnstirred (part : ClassPart) (time : Timetable) (w u : ℕ) : Type 0 where
  pub never : ChangesIn time w u → NeverReturnsTo (WaveStep part time w) u

-- no walk over the steps of wave w returns to a router that makes a change in it
abbrev pub IsCalmIn : ClassPart → Timetable → ℕ → Type 0
IsCalmIn part time w = (u : ℕ) → u < length part.rows → IsUnstirred part time w u

-- a part is calm in each wave before w; where there is such a wave, all routers are known to move
pub record IsCalmBefore (part : ClassPart) (time : Timetable) (w : ℕ) : Type 0 where
  pub moves : 1 < w → part.moves ≡ true
  pub calm : (v : ℕ) → 1 ≤ v → v < w → IsCalmIn part time v

-- for each part such a wave
pub record AreCalm (parts : List ClassPart) (time : Timetable) (calm : List ℕ) : Type 0 where
  pub many : length calm ≡ length parts
  pub each : (p : ℕ) (d : ClassPart) → p < length parts → IsCalmBefore (slice_index_or parts p d) time (slice_index calm p)
