use Rattle.walk_core.specs.steps.SegmentWalks.{IsJoinedEnd}
use Rattle.walk_core.proofs.over_segments.joined_end.Given as goal

abbrev pub invariant-loop-end : goal.invariant-loop-end
invariant-loop-end l = IsJoinedEnd l.outlets l.end

abbrev pub decreases-loop-end : goal.decreases-loop-end
decreases-loop-end l = l.end
