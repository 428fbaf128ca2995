use Rattle.std.proofs.Common.{take}
use Rattle.network_survey.specs.steps.Partners.{AreUnlike, SelectsPairs}
use Rattle.network_survey.proofs.pairs.unlike_pairs.Given as goal

abbrev pub invariant-loop-one : goal.invariant-loop-one
invariant-loop-one l = SelectsPairs (AreUnlike l.unlikeness l.ports) (take l.one-index l.ports) l.ports l.found.items
