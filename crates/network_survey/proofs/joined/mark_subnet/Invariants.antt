use Rattle.std.proofs.Common.{take}
use Rattle.network_survey.specs.steps.Reached.{HasPortOn, MarksWhere}
use Rattle.network_survey.proofs.joined.mark_subnet.Given as goal

abbrev pub invariant-loop-port : goal.invariant-loop-port
invariant-loop-port l = MarksWhere (λ v. HasPortOn (take l.port-index l.ports) v l.subnet) l.initial.reached l.reached
