-- Before routers lose their marks each is marked.
use Rattle.std.proofs.Common.{◌<◌, length, arith}
use Rattle.precedence_set.proofs.TraceFacts.{Reaches-below}
use Rattle.precedence_set.proofs.tracing.closed_cycle.Goals as goal

pub prune-requires-clause-complete : goal.prune-requires-clause-complete
prune-requires-clause-complete c = λ r reaches.
    let r_in : r < length c.args.path.now = Reaches-below (length c.args.path.now) c.args.graph.now.pairs.now
    c.requires.graph.below r c.args.pair.0 c.requires.u_in reaches in
    c.mark_all.ensures r (omega (arith, r_in, c.mark_all.auto.marks, c.list_reached-count.auto.marks, c.requires.marks_length))
