use Rattle.std.proofs.Common.{◌≡◌, ◌++◌}
use Rattle.std.specs.List.{flat_map}
use Rattle.order_core.specs.Rankings.{numbers_below}
use Rattle.drawn_network.specs.Legends.{wave_part}
use Rattle.drawn_network.proofs.legend.with_wave_rows.Given as goal

abbrev pub invariant-loop-wave : goal.invariant-loop-wave
invariant-loop-wave l = l.drawing ≡ l.fn.drawing ++ flat_map (wave_part l.columns l.waves) (numbers_below l.wave)
