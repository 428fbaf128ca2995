use Rattle.std.proofs.Common.{List, ℕ, length, sym, subst}
use Rattle.walk_core.specs.Reach.{Reach}
use Rattle.walk_core.specs.Segments.{AreSegments}
use Rattle.walk_core.specs.declared.segment.Port.{Port}
use Rattle.zone_graph.specs.Walks.{AreLeastOver, AreWalksOver}
use Rattle.zone_graph.proofs.WalkFacts.{are_walks_over}
use Rattle.zone_graph.proofs.known_walks.KnownWalks.walks_over.Goals as goal

pub walks_without-requires : goal.walks_without-requires
walks_without-requires c = subst (λ (n : ℕ). AreSegments n c.args.segments.now) (sym c.routers-in-None.ensures.count) c.requires

pub returns-in_ok-clone-in-Some : goal.returns-in_ok-clone-in-Some
returns-in_ok-clone-in-Some c =
    let segments : List (List Port) = c.args.segments.now in
    let walks : List Reach = c.in-Some.walks.now.value in
    subst (AreWalksOver (length c.args.net.now) segments) (sym c.in_ok-clone-in-Some.ensures.cases)
    (are_walks_over (length c.args.net.now) segments walks c.routers.ensures.network.limits.routers
    (subst (λ (n : ℕ). AreLeastOver n segments walks) c.routers.ensures.count c.in-Some.ensures))

pub returns-in_ok-new-in-None : goal.returns-in_ok-new-in-None
returns-in_ok-new-in-None c =
    let segments : List (List Port) = c.args.segments.now in
    let walks : List Reach = c.in_ok-walks-in-None.walks in
    subst (AreWalksOver (length c.args.net.now) segments) (sym c.in_ok-new-in-None.ensures.ok)
    (are_walks_over (length c.args.net.now) segments walks c.routers.ensures.network.limits.routers
    (subst (λ (n : ℕ). AreLeastOver n segments walks) c.routers-in-None.ensures.count c.in_ok-walks-in-None.ensures))
