use Rattle.std.proofs.Common.{[], take}
use Rattle.walk_core.specs.steps.Adding.{AddsNumbers}
use Rattle.walk_core.specs.steps.SegmentWalks.{GoesOut}
use Rattle.walk_core.proofs.ways.Ways.find_hops.Given as goal

abbrev pub invariant-loop-outlet : goal.invariant-loop-outlet
invariant-loop-outlet l = AddsNumbers (GoesOut l.self (take l.outlet-index l.outlets) (record { vertex = l.v; distance = l.distance })) [] l.found.items
