use Rattle.std.proofs.Common.{[], take}
use Rattle.walk_core.specs.steps.Adding.{AddsNumbers}
use Rattle.walk_core.specs.steps.Exits.{OneLeadsAsFar}
use Rattle.walk_core.proofs.exits.find_far_ends.Given as goal

abbrev pub invariant-loop-exit : goal.invariant-loop-exit
invariant-loop-exit l = AddsNumbers (OneLeadsAsFar (take l.exit-index l.exits) l.v l.distance) [] l.found.items
