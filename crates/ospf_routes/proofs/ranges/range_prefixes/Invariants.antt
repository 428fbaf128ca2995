use Rattle.std.proofs.Common.{◌≡◌, List, take}
use Rattle.std.specs.List.{Any}
use Rattle.ospf_routes.specs.Lists.{Adds}
use Rattle.ospf_routes.specs.declared.ranges.ActiveRange.{ActiveRange}
use Rattle.ospf_routes.proofs.ranges.range_prefixes.Given as goal

abbrev pub invariant-loop-actives : goal.invariant-loop-actives
invariant-loop-actives l = Adds l.initial.prefixes.items l.prefixes.items
    (λ p. Any (λ (actives : List ActiveRange). Any (λ (a : ActiveRange). a.range.dest ≡ p) actives) (take l.actives-index l.ranges))
