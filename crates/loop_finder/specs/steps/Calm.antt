-- A part in the states of a wave, and numbers that are lowered.
use Rattle.std.specs.Prelude.{◌≡◌, ℕ, ◌≤◌, List, length, slice_index, Contains}
use Rattle.loop_finder.specs.Parts.{ClassPart}
use Rattle.loop_finder.specs.declared.times.ChangeWaves.{ChangeWaves}

-- a part in a wave
pub record WaveState : Type 0 where
  pub part : ClassPart
  pub times : List ChangeWaves
  pub wave : ℕ
  pub routers : ℕ

-- it is of so many routers
pub record IsWaveState (c : WaveState) : Type 0 where
  pub rows : length c.part.rows ≡ c.routers
  pub each : length c.times ≡ c.routers

-- each of some numbers is no greater than it was, and those at these places are at most this one
pub record AreLowered (places : List ℕ) (most : ℕ) (old new : List ℕ) : Type 0 where
  pub many : length new ≡ length old
  pub each : (p : ℕ) → slice_index new p ≤ slice_index old p
  pub these : (p : ℕ) → Contains places p → slice_index new p ≤ most
