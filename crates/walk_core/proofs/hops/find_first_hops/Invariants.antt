use Rattle.std.proofs.Common.{[], take}
use Rattle.walk_core.specs.steps.Adding.{AddsNumbers}
use Rattle.walk_core.specs.steps.Departures.{BeginsAt}
use Rattle.walk_core.proofs.hops.find_first_hops.Given as goal

abbrev pub invariant-loop-departure : goal.invariant-loop-departure
invariant-loop-departure l = AddsNumbers (BeginsAt (take l.departure-index l.departures) l.rows l.v l.distance) [] l.found.items
