use Rattle.walk_core.specs.steps.SegmentWalks.{KnowsBeyond}
use Rattle.walk_core.proofs.beyond.all_beyond.Given as goal

abbrev pub invariant-loop-place : goal.invariant-loop-place
invariant-loop-place l = KnowsBeyond (record { count = l.count; segments = l.segments; rows = l.rows; beyond = l.beyond.items }) l.place
