-- How the fields of `Waves` hold a ranking.
use Rattle.std.specs.Prelude.{◌≡◌, ℕ, ◌+◌, ◌<◌, ◌^◌, List, length, map}
use Rattle.order_core.specs.Rankings.{IsRanking, wave_count, numbers_below, waves_before, flat_of}
use Rattle.order_core.specs.declared.waves.Waves.TheInside.{Inside}

-- where the first waves begin in the flat run
abbrev pub starts_of : List ℕ → ℕ → List ℕ
starts_of ranks count = map (λ w. length (waves_before ranks w)) (numbers_below count)

-- the ranks are a ranking of at least one router, and beside them stand the flat run and where each wave
-- begins in it, with the end of the last one
pub record AreHeldWaves (w : Inside) : Type 0 where
  pub some : 0 < length w.ranks.items
  pub few : length w.ranks.items < 2 ^ 32
  pub ranking : IsRanking (length w.ranks.items) w.ranks.items
  pub flat : w.flat.items ≡ flat_of w.ranks.items
  pub starts : w.starts.items ≡ starts_of w.ranks.items (wave_count w.ranks.items + 1)
