use Rattle.std.proofs.Common.{◌≡◌, ◌++◌, drop}
use Rattle.design_file.specs.steps.NetworkFaultLists.{already_isis_faults}
use Rattle.design_file.proofs.network_faults.add_of_isis.Given as goal

abbrev pub invariant-loop-router : goal.invariant-loop-router
invariant-loop-router l = l.faults.items ++ already_isis_faults (drop l.router l.net) ≡ l.initial.faults.items ++ already_isis_faults l.net
