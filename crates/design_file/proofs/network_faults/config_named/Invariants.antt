use Rattle.std.proofs.Common.{◌≡◌, drop}
use Rattle.design_file.specs.steps.NetworkFaultLists.{config_named}
use Rattle.design_file.proofs.network_faults.config_named.Given as goal

abbrev pub invariant-loop-router : goal.invariant-loop-router
invariant-loop-router l = config_named l.name (drop l.router l.net) ≡ config_named l.name l.net
