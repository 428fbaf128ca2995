use Rattle.std.proofs.Common.{◌≡◌, take}
use Rattle.std.specs.List.{filter_map}
use Rattle.network_survey.specs.steps.RouterLists.{area_if_up}
use Rattle.network_survey.proofs.routers.all_areas.Given as goal

abbrev pub invariant-loop-interface : goal.invariant-loop-interface
invariant-loop-interface l = l.areas.items ≡ filter_map area_if_up (take l.interface-index l.interfaces)
