use Rattle.std.proofs.Common.{take}
use Rattle.route_tables.specs.AlikeOffers.{AreDearerBy}
use Rattle.route_tables.proofs.alike.are_dearer_by.Given as goal

abbrev pub invariant-loop-place : goal.invariant-loop-place
invariant-loop-place l = AreDearerBy l.more (take l.place l.one) (take l.place l.other)
