use Rattle.igp_theory.proofs.MiddlePhase.{middle_acts}
use Rattle.igp_theory.proofs.middle_laws.middle_acts_as_old_or_new.Goals as goal

pub returns : goal.returns
returns c net old new u a network below = middle_acts net old new u a network below
