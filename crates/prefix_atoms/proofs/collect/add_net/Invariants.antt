use Rattle.std.proofs.Common.{◌≡◌, ◌++◌, take}
use Rattle.net_model.specs.DestLists.{all_dests}
use Rattle.prefix_atoms.proofs.collect.add_net.Given as goal

abbrev pub invariant-loop-router : goal.invariant-loop-router
invariant-loop-router l =
    l.prefixes.items ≡ l.initial.prefixes.items ++ all_dests (take l.router l.net)
