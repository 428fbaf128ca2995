use Rattle.std.proofs.Common.{◌≡◌, ◌++◌, map, take}
use Rattle.net_model.specs.declared.area.Range.{Range}
use Rattle.prefix_atoms.proofs.collect.add_ranges.Given as goal

abbrev pub invariant-loop-range : goal.invariant-loop-range
invariant-loop-range l =
    l.prefixes.items ≡ l.initial.prefixes.items ++ map (λ (r : Range). r.dest) (take l.range-index l.ranges)
