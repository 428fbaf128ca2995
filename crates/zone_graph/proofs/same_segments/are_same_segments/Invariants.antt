use Rattle.std.proofs.Common.{◌≡◌, take}
use Rattle.zone_graph.proofs.same_segments.are_same_segments.Given as goal

abbrev pub invariant-loop-place : goal.invariant-loop-place
invariant-loop-place l = take l.place l.one ≡ take l.place l.two
