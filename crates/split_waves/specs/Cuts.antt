-- Waves that are cut into waves of so many routers at most.
use Rattle.std.specs.Prelude.{◌≡◌, ℕ, ◌+◌, ◌<◌, ◌≤◌, List, length, map}
use Rattle.std.specs.Fork.{slice_chunk}
use Rattle.std.specs.Int.{div_ceil}
use Rattle.std.specs.List.{flat_map}
use Rattle.order_core.specs.Rankings.{IsRanking, numbers_below}
use Rattle.step_scripts.specs.WaveFiles.{all_in, wave_at}
use Rattle.step_scripts.specs.WavesTexts.{waves_in}
use Rattle.split_waves.specs.Refinements.{Refines}

-- the cuts of a wave: its routers in their order, so many at a time
abbrev pub cuts_of : ℕ → List ℕ → List (List ℕ)
cuts_of most wave = map (slice_chunk wave most) (numbers_below (div_ceil (length wave) most))

-- the waves of a ranking, each of them cut
abbrev pub cut_waves : ℕ → List ℕ → List (List ℕ)
cut_waves most ranks = flat_map (cuts_of most) (waves_in ranks)

-- what cuts of a wave are: end to end they are the wave, none is empty, none has more routers than asked for, and the last
-- one alone may have fewer
pub record AreCutsOf (most : ℕ) (wave : List ℕ) (cuts : List (List ℕ)) : Type 0 where
  pub whole : all_in cuts ≡ wave
  pub some : (k : ℕ) → k < length cuts → 0 < length (wave_at cuts k)
  pub at_most : (k : ℕ) → k < length cuts → length (wave_at cuts k) ≤ most
  pub full : (k : ℕ) → k + 1 < length cuts → length (wave_at cuts k) ≡ most

-- a ranking whose waves are those of another one, cut: it refines it, and no wave has more routers than asked for
pub record AreSmallerWaves (most : ℕ) (ranks split : List ℕ) : Type 0 where
  pub refines : Refines ranks split
  pub at_most : (w : ℕ) → w < length (waves_in split) → length (wave_at (waves_in split) w) ≤ most

-- all this is so
pub record CutsRefine : Type 0 where
  pub cuts : (most : ℕ) (wave : List ℕ) → 0 < most → AreCutsOf most wave (cuts_of most wave)
  pub lists :
      (n most : ℕ) (ranks split : List ℕ) → 0 < most → IsRanking n ranks → IsRanking n split →
      waves_in split ≡ cut_waves most ranks → AreSmallerWaves most ranks split
