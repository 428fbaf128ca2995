use Rattle.igp_theory.proofs.ForwardingLaws as laws
use Rattle.igp_theory.proofs.forwarding_laws.middle_is_old_or_new.Goals as goal

pub returns : goal.returns
returns g c u a used uses = laws.middle_is_old_or_new uses
