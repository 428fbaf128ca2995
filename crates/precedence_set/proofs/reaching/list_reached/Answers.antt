-- Each turn of the loop walks over the pairs from one router more.
use Rattle.precedence_set.proofs.ReachFacts.{AreListed-none, IsReaching-step, IsReaching-end}
use Rattle.precedence_set.proofs.reaching.list_reached.Goals as goal

pub list_one-count-requires-clause-listed : goal.list_one-count-requires-clause-listed
list_one-count-requires-clause-listed c = AreListed-none c.unmark_all.new.marks c.args.list.now c.unmark_all.ensures

pub loop-k-preserved : goal.loop-k-preserved
loop-k-preserved c =
    let next = c.list_after-count in
    IsReaching-step c.args.graph.now.pairs.now c.args.u c.args.v c.loop-k.marks next.new.marks c.loop-k.list next.new.list c.loop-k.k c.loop-k.count
    next.result c.loop-k-test.true
    c.loop-k.invariant next.ensures.listed next.ensures.kept next.ensures.from next.ensures.after next.ensures.same next.ensures.no_fewer

pub returns-clause-complete : goal.returns-clause-complete
returns-clause-complete c =
    IsReaching-end c.args.graph.now.pairs.now c.args.u c.args.v c.loop-k.marks c.loop-k.list c.loop-k.k c.loop-k.count c.loop-k-test.false c.loop-k.invariant
