use Rattle.std.proofs.Common.{ℕ}
use Rattle.std.specs.List.{AllWithin}
use Rattle.net_model.specs.declared.interface.Interface.{Interface}
use Rattle.net_model.specs.Network.{RunsArea}
use Rattle.ospf_routes.proofs.areas.first_area.Given as goal

abbrev pub invariant-loop-interface : goal.invariant-loop-interface
invariant-loop-interface l = AllWithin (λ (i : Interface). (n : ℕ) → RunsArea n i → ⊥) l.interfaces 0 l.interface-index
