use Rattle.std.proofs.Common.{arith}
use Rattle.std.proofs.lemmas.Grind.{common_steps}
use Rattle.std.proofs.lemmas.List.Elements.{filter_map-append}
use Rattle.network_survey.proofs.routers.all_areas.Goals as goal

pub loop-interface-preserved : goal.loop-interface-preserved
loop-interface-preserved c = grind (arith, common_steps, filter_map-append)
