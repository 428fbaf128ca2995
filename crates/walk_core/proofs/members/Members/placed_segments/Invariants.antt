use Rattle.std.proofs.Common.{◌≡◌, take}
use Rattle.walk_core.specs.steps.Members.{placed}
use Rattle.walk_core.proofs.members.Members.placed_segments.Given as goal

abbrev pub invariant-loop-segment : goal.invariant-loop-segment
invariant-loop-segment l = l.all.items ≡ placed l.self (take l.segment-index l.segments)
