use Rattle.std.proofs.Common.{arith}
use Rattle.std.proofs.lemmas.Grind.{common_steps}
use Rattle.std.proofs.lemmas.List.Elements.{filter_map-append}
use Rattle.net_model.proofs.systems.list_systems.Goals as goal

pub loop-config-preserved : goal.loop-config-preserved
loop-config-preserved c = grind (arith, common_steps, filter_map-append)
