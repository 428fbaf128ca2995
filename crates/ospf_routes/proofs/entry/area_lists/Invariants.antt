use Rattle.std.proofs.Common.{take}
use Rattle.ospf_routes.proofs.RouteFacts.{AreaListsSoFar}
use Rattle.ospf_routes.proofs.entry.area_lists.Given as goal

abbrev pub invariant-loop-part : goal.invariant-loop-part
invariant-loop-part l = AreaListsSoFar l.asked.domain.now.net l.asked.destination.now.dest l.asked.router (take l.part-index l.part-items) l.lists.items
