use Rattle.std.proofs.Common.{List, sym, subst}
use Rattle.net_model.specs.Network.{Network}
use Rattle.walk_core.specs.declared.segment.Port.{Port}
use Rattle.igp_theory.specs.Laws.{IsIsisNeighbor}
use Rattle.route_tables.specs.Entries.{AreJoinedBy}
use Rattle.isis_routes.proofs.ProtocolFacts.{joined_in_levels}
use Rattle.isis_routes.proofs.source.IsisRoutes.build_over.Goals as goal

pub build-requires-3 : goal.build-requires-3
build-requires-3 c =
    let segments = c.in_ok-segments.segments in
    subst (λ (net : Network). AreJoinedBy (IsIsisNeighbor net) c.in_ok-joined.field-0.items) (sym c.in_ok-isis.ensures)
    (subst (λ (l : List (List Port)). AreJoinedBy (IsIsisNeighbor c.args.net.now) l) (sym c.in_ok-joined.ensures)
    (joined_in_levels c.args.net.now segments.one.items segments.two.items c.in_ok-segments.ensures.one c.in_ok-segments.ensures.two))
