use Rattle.std.proofs.Common.{◌≡◌, ◌++◌}
use Rattle.std.specs.List.{flat_map}
use Rattle.order_core.specs.Rankings.{numbers_below}
use Rattle.drawn_network.specs.Marks.{fault_marked}
use Rattle.drawn_network.specs.RouterLines.{wave_nodes}
use Rattle.drawn_network.proofs.wave_part.with_waves.Given as goal

abbrev pub invariant-loop-wave : goal.invariant-loop-wave
invariant-loop-wave l =
    l.drawing ≡ l.fn.drawing
    ++ flat_map (wave_nodes l.told.net.now (fault_marked l.told.mark) l.told.target l.waves) (numbers_below l.wave)
