use Rattle.std.proofs.Common.{map, take}
use Rattle.std.specs.List.{AllZip}
use Rattle.net_model.specs.Lookups.{IsNamed}
use Rattle.step_scripts.proofs.waves_reading.routers_of.Given as goal

abbrev pub invariant-loop-name : goal.invariant-loop-name
invariant-loop-name l = AllZip (IsNamed l.net) (map (λ name. name.now) (take l.name-index l.names)) l.routers.items
