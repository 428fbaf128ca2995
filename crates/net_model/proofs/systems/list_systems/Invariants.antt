use Rattle.std.proofs.Common.{◌≡◌, take}
use Rattle.std.specs.List.{filter_map}
use Rattle.net_model.specs.steps.Systems.{own_system}
use Rattle.net_model.proofs.systems.list_systems.Given as goal

abbrev pub invariant-loop-config : goal.invariant-loop-config
invariant-loop-config l = l.systems.items ≡ filter_map own_system (take l.config-index l.configs)
