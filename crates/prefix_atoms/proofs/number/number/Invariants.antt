use Rattle.prefix_atoms.proofs.NumberSteps.{Numbered}
use Rattle.prefix_atoms.proofs.number.number.Given as goal

abbrev pub invariant-loop-place : goal.invariant-loop-place
invariant-loop-place l = Numbered l.keys l.bound l.place l.numbers.items l.firsts.items l.seen.items
