use Rattle.std.proofs.Common.{◌≡◌, ◌++◌, map, take}
use Rattle.net_model.specs.declared.area.Range.{Range}
use Rattle.net_model.proofs.limits.add_ranges.Given as goal

abbrev pub invariant-loop-range : goal.invariant-loop-range
invariant-loop-range l =
    l.dests.items ≡ l.initial.dests.items ++ map (λ (r : Range). r.dest) (take l.range-index l.ranges)
