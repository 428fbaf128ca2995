use Rattle.std.proofs.Common.{◌≡◌, ◌++◌, take}
use Rattle.std.specs.List.{flat_map}
use Rattle.drawn_network.specs.LinkLines.{subnet_node}
use Rattle.drawn_network.proofs.link_part.with_nodes.Given as goal

abbrev pub invariant-loop-link : goal.invariant-loop-link
invariant-loop-link l = l.drawing ≡ l.fn.drawing ++ flat_map subnet_node (take l.link-index l.links)
