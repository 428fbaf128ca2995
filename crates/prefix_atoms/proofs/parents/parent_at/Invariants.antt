use Rattle.prefix_atoms.proofs.NestedLaws.{IsAhead, places_left}
use Rattle.prefix_atoms.proofs.parents.parent_at.Given as goal

abbrev pub invariant-loop-next : goal.invariant-loop-next
invariant-loop-next l = IsAhead l.prefixes l.place l.prefix l.next

abbrev pub decreases-loop-next : goal.decreases-loop-next
decreases-loop-next l = places_left l.next
