use Rattle.std.proofs.Common.{◌≡◌, take}
use Rattle.std.specs.List.{Any}
use Rattle.ospf_routes.specs.Lists.{Adds}
use Rattle.ospf_routes.specs.declared.ranges.ActiveRange.{ActiveRange}
use Rattle.ospf_routes.proofs.ranges.push_prefixes.Given as goal

abbrev pub invariant-loop-active : goal.invariant-loop-active
invariant-loop-active l =
    Adds l.initial.prefixes.items l.prefixes.items (λ p. Any (λ (a : ActiveRange). a.range.dest ≡ p) (take l.active-index l.actives))
