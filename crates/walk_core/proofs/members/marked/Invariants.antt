use Rattle.std.proofs.Common.{◌≡◌, length}
use Rattle.walk_core.specs.steps.Members.{AreMarked}
use Rattle.walk_core.proofs.members.marked.Given as goal

abbrev pub invariant-loop-place : goal.invariant-loop-place
invariant-loop-place l = record { marked : AreMarked l.segments l.place l.marks.items; long : length l.marks.items ≡ l.count }
