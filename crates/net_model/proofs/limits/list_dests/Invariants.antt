use Rattle.std.proofs.Common.{◌≡◌, take}
use Rattle.net_model.specs.DestLists.{all_dests}
use Rattle.net_model.proofs.limits.list_dests.Given as goal

abbrev pub invariant-loop-config : goal.invariant-loop-config
invariant-loop-config l = l.dests.items ≡ all_dests (take l.config-index l.configs)
