use Rattle.std.specs.List.{AllWithin}
use Rattle.ospf_routes.specs.steps.Lanes.{Excepts}
use Rattle.ospf_routes.proofs.listeners.are_excepted.Given as goal

abbrev pub invariant-loop-router : goal.invariant-loop-router
invariant-loop-router l = AllWithin (Excepts l.decision) l.routers 0 l.router-index
