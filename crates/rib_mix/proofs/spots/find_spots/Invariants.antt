use Rattle.rib_mix.specs.steps.Spots.{AreSpots}
use Rattle.rib_mix.proofs.spots.find_spots.Given as goal

abbrev pub invariant-loop-spot : goal.invariant-loop-spot
invariant-loop-spot l = AreSpots l.prefixes l.list l.spot l.spots.items
