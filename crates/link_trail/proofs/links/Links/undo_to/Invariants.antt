use Rattle.std.proofs.Common.{◌≤◌, length}
use Rattle.link_trail.proofs.UndoLemmas.{IsUndone}
use Rattle.link_trail.proofs.links.Links.undo_to.Given as goal

abbrev pub invariant-loop-self : goal.invariant-loop-self
invariant-loop-self l = (l.mark ≤ length l.self.trail) × IsUndone l.initial.self l.self

abbrev pub decreases-loop-self : goal.decreases-loop-self
decreases-loop-self l = length l.self.trail
