use Rattle.std.proofs.Common.{◌≡◌, ◌++◌, take}
use Rattle.std.specs.List.{flat_map}
use Rattle.drawn_network.specs.LinkEnds.{LinkEnd, area_listed}
use Rattle.drawn_network.proofs.areas.push_areas.Given as goal

abbrev pub invariant-loop-end : goal.invariant-loop-end
invariant-loop-end l =
    l.areas.items ≡ l.initial.areas.items ++ flat_map (λ (e : LinkEnd). area_listed e.interface.area) (take l.end-index l.ends)
