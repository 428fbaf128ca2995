use Rattle.std.proofs.Common.{◌≡◌, ◌++◌}
use Rattle.std.specs.List.{flat_map}
use Rattle.order_core.specs.Rankings.{numbers_below}
use Rattle.net_model.specs.RouterNames.{names_of}
use Rattle.drawn_network.specs.RingLines.{red_line_at}
use Rattle.drawn_network.proofs.ring_part.with_ring.Given as goal

abbrev pub invariant-loop-place : goal.invariant-loop-place
invariant-loop-place l = l.drawing ≡ l.fn.drawing ++ flat_map (red_line_at (names_of l.net) l.turns) (numbers_below l.place)
