use Rattle.std.proofs.Common.{◌≡◌, ◌++◌, take}
use Rattle.std.specs.List.{flat_map}
use Rattle.net_model.specs.RouterNames.{names_of}
use Rattle.drawn_network.specs.LinkLines.{link_lines_of}
use Rattle.drawn_network.proofs.link_part.with_links.Given as goal

abbrev pub invariant-loop-link : goal.invariant-loop-link
invariant-loop-link l = l.drawing ≡ l.initial.drawing ++ flat_map (link_lines_of (names_of l.net) l.areas)
    (take l.link-index l.links)
