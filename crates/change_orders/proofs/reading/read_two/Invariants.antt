use Rattle.std.proofs.Common.{length}
use Rattle.change_orders.specs.steps.Standing.{IsReadTo, standing}
use Rattle.change_orders.proofs.reading.read_two.Given as goal

abbrev pub invariant-loop-line : goal.invariant-loop-line
invariant-loop-line l = IsReadTo l.net l.text l.lines l.number (standing l.read)

abbrev pub decreases-loop-line : goal.decreases-loop-line
decreases-loop-line l = length l.lines
