use Rattle.std.proofs.Common.{◌≡◌, length}
use Rattle.walk_core.specs.steps.SegmentWalks.{AreOutletsBefore}
use Rattle.walk_core.proofs.outlets.all_outlets.Given as goal

abbrev pub invariant-loop-place : goal.invariant-loop-place
invariant-loop-place l = record { long : length l.all.items ≡ l.count; before : AreOutletsBefore l.segments l.place l.all.items }
