use Rattle.std.proofs.Common.{inl, inr}
use Rattle.igp_theory.proofs.ForwardingLaws.{middle_is_old_or_new}
use Rattle.igp_theory.proofs.middle_laws.middle_uses_none.Goals as goal

pub returns : goal.returns
returns g c u a in_old in_new used uses = elim (middle_is_old_or_new uses) [ inl one ↦ in_old used one | inr two ↦ in_new used two ]
