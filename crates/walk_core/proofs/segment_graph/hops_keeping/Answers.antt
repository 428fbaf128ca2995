use Rattle.walk_core.specs.Segments.{SendsAcross}
use Rattle.walk_core.proofs.KeptLaws.{hops_kept}
use Rattle.walk_core.proofs.segment_graph.hops_keeping.Goals as goal

pub returns-clause-exact : goal.returns-clause-exact
returns-clause-exact c =
    hops_kept (SendsAcross c.args.ways.now.segments) c.args.ways.now.count c.args.root c.args.kept.roots.now c.args.kept.walks.now c.in-Some.walks.now
    c.requires.kept c.in-Some.ensures.root c.in-Some.ensures.walks c.in_ok-hops.hops c.in_ok-hops.ensures.lists
