use Rattle.std.proofs.Common.{◌≡◌, ◌++◌}
use Rattle.std.specs.List.{flat_map}
use Rattle.order_core.specs.Rankings.{numbers_below}
use Rattle.drawn_network.specs.Legends.{area_table}
use Rattle.drawn_network.proofs.legend.with_area_rows.Given as goal

abbrev pub invariant-loop-place : goal.invariant-loop-place
invariant-loop-place l = l.drawing ≡ l.fn.drawing ++ flat_map (area_table l.columns l.areas) (numbers_below l.place)
