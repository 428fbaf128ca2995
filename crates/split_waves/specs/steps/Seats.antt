-- The ranks of routers before and after those of one wave are ranked by its cuts.
use Rattle.std.specs.Prelude.{◌≡◌, ℕ, ◌+◌, ◌/◌, ◌<◌, ◌≤◌, List, length, map, slice_index, Contains}
use Rattle.std.specs.List.{flat_map}
use Rattle.order_core.specs.Rankings.{numbers_below, rank_of, wave_of, waves_before}
use Rattle.step_scripts.specs.WaveFiles.{wave_at}
use Rattle.split_waves.specs.Cuts.{cuts_of}

pub record RankChange : Type 0 where
  pub before : List ℕ
  pub after : List ℕ

abbrev pub seating : List ℕ → List ℕ → RankChange
seating before after = record { before = before; after = after }

-- each router of the wave is ranked by the cut that it stands in, counted from the first rank on, and no other router has
-- another rank than before
pub record AreRankedByCuts (most first : ℕ) (routers : List ℕ) (ranks : RankChange) : Type 0 where
  pub count : length ranks.after ≡ length ranks.before
  pub each : (place : ℕ) → place < length routers → rank_of ranks.after (slice_index routers place) ≡ first + place / most
  pub others : (u : ℕ) → (Contains routers u → ⊥) → rank_of ranks.after u ≡ rank_of ranks.before u

-- the cuts of the waves before w
abbrev pub cuts_before : ℕ → List ℕ → ℕ → List (List ℕ)
cuts_before most ranks w = flat_map (cuts_of most) (map (wave_of ranks) (numbers_below w))

-- there are so many of them, and each of their routers has the number of its cut
pub record AreSplit (most : ℕ) (ranks : List ℕ) (w count : ℕ) (split : List ℕ) : Type 0 where
  pub each : length split ≡ length ranks
  pub counted : count ≡ length (cuts_before most ranks w)
  pub few : count ≤ length (waves_before ranks w)
  pub seats : (k u : ℕ) → Contains (wave_at (cuts_before most ranks w) k) u → rank_of split u ≡ k
