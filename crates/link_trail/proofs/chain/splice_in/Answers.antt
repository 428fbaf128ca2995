use Rattle.link_trail.proofs.SpliceLemmas.{ShowsLists-put}
use Rattle.link_trail.proofs.chain.splice_in.Goals as goal

pub returns : goal.returns
returns c = record {
  shows = λ lists before after shows free is last first.
      rw (c.set_previous.ensures.nodes, c.set_next.ensures.nodes, c.set_previous.ensures.ends, c.set_next.ensures.ends, ← last, ← first)
      (ShowsLists-put c.args.nodes.now c.args.ends.now lists c.args.gap.list c.args.node before after shows free is c.requires.list c.requires.node);
}
