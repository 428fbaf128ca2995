use Rattle.std.proofs.Common.{take}
use Rattle.ospf_routes.specs.steps.Areas.{AreJoinedAreas}
use Rattle.ospf_routes.proofs.areas.areas_of.Given as goal

abbrev pub invariant-loop-number : goal.invariant-loop-number
invariant-loop-number l = AreJoinedAreas l.net (take l.number-index l.numbers) l.areas.items l.segments.items
