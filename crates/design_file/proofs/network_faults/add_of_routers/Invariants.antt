use Rattle.std.proofs.Common.{◌≡◌, ◌++◌, drop}
use Rattle.design_file.specs.steps.NetworkFaultLists.{routers_faults}
use Rattle.design_file.proofs.network_faults.add_of_routers.Given as goal

abbrev pub invariant-loop-router : goal.invariant-loop-router
invariant-loop-router l = l.faults.items ++ routers_faults l.net (drop l.router-index l.routers) ≡ l.initial.faults.items ++ routers_faults l.net l.routers
