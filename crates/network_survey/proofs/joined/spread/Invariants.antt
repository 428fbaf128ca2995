use Rattle.std.proofs.Common.{take}
use Rattle.network_survey.specs.steps.Reached.{MarksWhere, MeetIn}
use Rattle.network_survey.proofs.joined.spread.Given as goal

abbrev pub invariant-loop-port : goal.invariant-loop-port
invariant-loop-port l = MarksWhere (MeetIn (take l.port-index l.ports) l.ports l.router) l.initial.reached l.reached
