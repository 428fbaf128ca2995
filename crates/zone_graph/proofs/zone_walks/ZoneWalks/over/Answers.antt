use Rattle.std.proofs.Common.{ℕ, length, sym, subst}
use Rattle.walk_core.specs.Segments.{AreSegments}
use Rattle.zone_graph.specs.Walks.{AreLeastOver}
use Rattle.zone_graph.proofs.WalkFacts.{are_walks_over}
use Rattle.zone_graph.proofs.zone_walks.ZoneWalks.over.Goals as goal

pub least_over-requires : goal.least_over-requires
least_over-requires c = subst (λ (n : ℕ). AreSegments n c.args.segments.now) (sym c.routers.ensures.count) c.requires

pub returns : goal.returns
returns c =
    are_walks_over (length c.args.net.now) c.args.segments.now c.in_ok-walks.walks c.routers.ensures.network.limits.routers
    (subst (λ (n : ℕ). AreLeastOver n c.args.segments.now c.in_ok-walks.walks) c.routers.ensures.count c.in_ok-walks.ensures)
