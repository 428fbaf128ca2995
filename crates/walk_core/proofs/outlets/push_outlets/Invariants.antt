use Rattle.std.proofs.Common.{◌≡◌, length}
use Rattle.walk_core.proofs.OutletLaws.{AreOutletsOnto}
use Rattle.walk_core.proofs.outlets.push_outlets.Given as goal

abbrev pub invariant-loop-port : goal.invariant-loop-port
invariant-loop-port l = record {
  long : length l.all.items ≡ length l.initial.all.items;
  onto : AreOutletsOnto l.segments l.place l.port-index l.all.items;
}
