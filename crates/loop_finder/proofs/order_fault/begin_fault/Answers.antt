use Rattle.std.proofs.Common.{ap, ◌∙◌}
use Rattle.igp_theory.specs.Phases.{all_old, state_in}
use Rattle.loop_finder.proofs.OrderStates.{same_state}
use Rattle.loop_finder.proofs.order_fault.begin_fault.Goals as goal

pub returns-clause-sound : goal.returns-clause-sound
returns-clause-sound g c =
    rw (ap state_in c.as_slice.ensures.value ∙ same_state (state_in c.args.work.now.first.items) all_old c.requires.phases) at c.state_fault.ensures.sound

pub returns-clause-fault : goal.returns-clause-fault
returns-clause-fault g c =
    rw (ap state_in c.as_slice.ensures.value ∙ same_state (state_in c.args.work.now.first.items) all_old c.requires.phases) at c.state_fault.ensures.fault
