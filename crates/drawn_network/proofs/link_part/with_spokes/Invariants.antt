use Rattle.std.proofs.Common.{◌≡◌, ◌++◌, take}
use Rattle.std.specs.List.{flat_map}
use Rattle.net_model.specs.RouterNames.{names_of}
use Rattle.drawn_network.specs.LinkLines.{spoke_line}
use Rattle.drawn_network.proofs.link_part.with_spokes.Given as goal

abbrev pub invariant-loop-end : goal.invariant-loop-end
invariant-loop-end l = l.drawing ≡ l.fn.drawing ++ flat_map (spoke_line (names_of l.net) l.areas) (take l.end-index l.ends)
