use Rattle.std.proofs.Common.{arith}
use Rattle.std.proofs.lemmas.Grind.{common_steps}
use Rattle.ospf_routes.proofs.LaneLaws.{homes_within}
use Rattle.ospf_routes.proofs.lane_twins.is_outside.Goals as goal

pub are_told-requires : goal.are_told-requires
are_told-requires c = grind (arith, common_steps, homes_within)
