use Rattle.isis_routes.specs.steps.Near.{AreAllNear}
use Rattle.isis_routes.proofs.near.all_near.Given as goal

abbrev pub invariant-loop-to : goal.invariant-loop-to
invariant-loop-to l = AreAllNear l.domain.net l.to l.all.items
