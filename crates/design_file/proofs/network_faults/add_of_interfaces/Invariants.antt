use Rattle.std.proofs.Common.{◌≡◌, ◌++◌, drop}
use Rattle.design_file.specs.steps.NetworkFaultLists.{interfaces_faults}
use Rattle.design_file.proofs.network_faults.add_of_interfaces.Given as goal

abbrev pub invariant-loop-one : goal.invariant-loop-one
invariant-loop-one l =
    l.faults.items ++ interfaces_faults l.path l.interfaces (drop l.one-index l.named) ≡ l.initial.faults.items ++ interfaces_faults l.path
    l.interfaces l.named
