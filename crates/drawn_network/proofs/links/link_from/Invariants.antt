use Rattle.std.proofs.Common.{◌≡◌, ◌∷◌, take}
use Rattle.std.specs.List.{filter}
use Rattle.drawn_network.specs.LinkEnds.{share_subnet}
use Rattle.drawn_network.proofs.links.link_from.Given as goal

abbrev pub invariant-loop-end : goal.invariant-loop-end
invariant-loop-end l = l.ends.items ≡ l.first ∷ filter (share_subnet l.first) (take l.end-index l.rest)
