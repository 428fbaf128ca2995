use Rattle.igp_theory.proofs.ForwardingLaws.{every_phase_steps}
use Rattle.igp_theory.proofs.forwarding_laws.every_mixture_forwards.Goals as goal

pub returns : goal.returns
returns g c a state in_old in_new u must = every_phase_steps (in_old u must) (in_new u must) (state u)
