use Rattle.loop_finder.specs.Watches.{AreFirstPlaces}
use Rattle.loop_finder.proofs.watch.Places.of_router.Given as goal

abbrev pub invariant-loop-place : goal.invariant-loop-place
invariant-loop-place l = AreFirstPlaces l.parts l.router l.place l.room.items
