use Rattle.std.proofs.Common.{take}
use Rattle.ospf_routes.proofs.RouteFacts.{AreSomeOf}
use Rattle.ospf_routes.proofs.united.united.Given as goal

abbrev pub invariant-loop-list : goal.invariant-loop-list
invariant-loop-list l = AreSomeOf (take l.list-index l.lists) l.count l.hops.items
