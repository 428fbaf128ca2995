use Rattle.std.proofs.Common.{◌≡◌, ◌++◌, take}
use Rattle.network_survey.specs.steps.Partners.{pairs_with}
use Rattle.network_survey.proofs.pairs.push_pairs.Given as goal

abbrev pub invariant-loop-other : goal.invariant-loop-other
invariant-loop-other l = l.found.items ≡ l.initial.found.items ++ pairs_with l.one (take l.other-index l.others)
