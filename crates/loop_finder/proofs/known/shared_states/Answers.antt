use Rattle.std.proofs.Common.{arith}
use Rattle.loop_finder.proofs.OrderStates.{same_states}
use Rattle.loop_finder.proofs.known.shared_states.Goals as goal

pub returns-clause-same : goal.returns-clause-same
returns-clause-same c k u less =
    same_states c.args.kept.now c.args.order.now c.shared_places-places.result k u c.requires c.shared_places-places.ensures.same (omega (arith, less))
