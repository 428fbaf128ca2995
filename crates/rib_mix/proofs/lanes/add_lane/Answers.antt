use Rattle.std.proofs.Common.{arith}
use Rattle.std.proofs.lemmas.Grind.{common_steps}
use Rattle.std.proofs.lemmas.List.Elements.{Contains-append_left, Contains-push}
use Rattle.rib_mix.proofs.lanes.add_lane.Goals as goal

pub returns : goal.returns
returns c = grind (arith, common_steps, Contains-append_left, Contains-push)
