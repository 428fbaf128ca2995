use Rattle.std.proofs.lemmas.Grind.{common_steps}
use Rattle.std.proofs.Common.{arith}
use Rattle.igp_theory.proofs.Rings.{found_goes_round}
use Rattle.loop_finder.proofs.TagSteps.{steps_inside}
use Rattle.loop_finder.proofs.WalkSteps.{found_short}
use Rattle.loop_finder.proofs.class_fault.steps_fault.Goals as goal

pub write_ring-requires-clause-around : goal.write_ring-requires-clause-around
write_ring-requires-clause-around g c = grind (arith, common_steps, found_goes_round)

pub write_ring-requires-clause-room : goal.write_ring-requires-clause-room
write_ring-requires-clause-room g c = grind (arith, common_steps, found_short, steps_inside)
