use Rattle.std.proofs.Common.{◌≡◌, take}
use Rattle.drawn_network.specs.LinkEnds.{areas_along}
use Rattle.drawn_network.proofs.areas.areas_along.Given as goal

abbrev pub invariant-loop-link : goal.invariant-loop-link
invariant-loop-link l = l.areas.items ≡ areas_along (take l.link-index l.links)
