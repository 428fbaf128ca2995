use Rattle.std.proofs.Common.{ℕ}
use Rattle.std.specs.List.{AllWithin}
use Rattle.igp_theory.specs.Ospf.{IntraAreaCost}
use Rattle.ospf_routes.specs.declared.intra_area.AreaOffers.{AreaOffers}
use Rattle.ospf_routes.proofs.intra_area.has_intra.Given as goal

abbrev pub invariant-loop-part : goal.invariant-loop-part
invariant-loop-part l = AllWithin (λ (a : AreaOffers). (c : ℕ) → IntraAreaCost l.domain.net a.area l.destination.dest l.u c → ⊥) l.part-items 0 l.part-index
