use Rattle.std.proofs.Common.{◌≡◌, ◌+◌, ℕ, List, length, sym, subst, arith}
use Rattle.walk_core.specs.Segments.{SendsAcross}
use Rattle.walk_core.specs.Walks.{Arcs}
use Rattle.walk_core.specs.declared.segment.Port.{Port}
use Rattle.walk_core.specs.steps.FirstHops.{AreAllHops}
use Rattle.walk_core.specs.steps.SegmentWalks.{AreOutlets}
use Rattle.walk_core.proofs.ReachLaws.{all_hops_more}
use Rattle.walk_core.proofs.segment_graph.SegmentGraph.all_hops.Goals as goal

pub hops_keeping-requires-clause-outlets : goal.hops_keeping-requires-clause-outlets
hops_keeping-requires-clause-outlets c =
    subst (λ (s : List (List Port)). AreOutlets s c.loop-root.root (length s) c.ports.result.now) (sym c.requires.segments) c.ports.ensures.ports

pub loop-root-preserved : goal.loop-root-preserved
loop-root-preserved c =
    let arc : Arcs = SendsAcross c.args.ways.now.segments in
    let root : ℕ = c.loop-root.root in
    subst (λ (l : List (List (List ℕ))). AreAllHops arc (root + 1) l) (sym c.in_ok-push.ensures.items)
    (all_hops_more arc root c.loop-root.lists.items c.in_ok-hops.hops c.loop-root.invariant c.in_ok-hops.ensures.exact c.in_ok-hops.ensures.ascending)

pub returns : goal.returns
returns c =
    let all : c.loop-root.root ≡ c.args.self.now.count = omega (arith, c.count-count.ensures.value) in
    subst (λ (s : List (List Port)). AreAllHops (SendsAcross s) c.args.self.now.count c.loop-root.lists.items) c.requires.segments
    (subst (λ (n : ℕ). AreAllHops (SendsAcross c.args.ways.now.segments) n c.loop-root.lists.items) all c.loop-root.invariant)
