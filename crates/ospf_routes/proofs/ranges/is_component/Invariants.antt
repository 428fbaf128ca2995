use Rattle.std.proofs.Common.{ℕ}
use Rattle.std.specs.List.{AllWithin}
use Rattle.ospf_routes.specs.steps.Ranges.{IsCoveredAt}
use Rattle.ospf_routes.specs.declared.ranges.ActiveRange.{ActiveRange}
use Rattle.ospf_routes.proofs.ranges.is_component.Given as goal

abbrev pub invariant-loop-active : goal.invariant-loop-active
invariant-loop-active l = AllWithin (λ (a : ActiveRange). (c : ℕ) → IsCoveredAt l.domain.net l.b a.range l.destination.dest c → ⊥) l.actives 0 l.active-index
