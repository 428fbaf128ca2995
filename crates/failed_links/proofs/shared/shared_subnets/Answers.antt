use Rattle.std.proofs.Common.{arith}
use Rattle.std.proofs.lemmas.Grind.{common_steps}
use Rattle.std.proofs.lemmas.List.Elements.{filter_map-append}
use Rattle.failed_links.proofs.shared.shared_subnets.Goals as goal

pub loop-port-preserved : goal.loop-port-preserved
loop-port-preserved c = grind (arith, common_steps, filter_map-append)
