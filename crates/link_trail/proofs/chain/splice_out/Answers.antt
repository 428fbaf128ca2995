use Rattle.std.proofs.Common.{◌≡◌, ◌<◌, length, ap, arith, sym}
use Rattle.link_trail.specs.declared.chain.Node.{Node}
use Rattle.link_trail.specs.Chains.{node_at, last_node}
use Rattle.link_trail.specs.Lists.{first_node}
use Rattle.link_trail.proofs.SpliceLemmas.{ShowsLists-out, ShowsLists-node}
use Rattle.link_trail.proofs.chain.splice_out.Goals as goal

pub returns : goal.returns
returns c = record {
  shows = λ lists before after shows is.
      let l : c.args.list < length lists = omega (arith, shows.count, c.requires.list) in
      let e = ShowsLists-node c.args.nodes.now c.args.ends.now lists c.args.list c.args.node before after shows is l in
      let ep : last_node before ≡ (node_at c.args.nodes.now c.args.node).previous = sym (ap (λ (n : Node). n.previous) e) in
      let en : first_node after ≡ (node_at c.args.nodes.now c.args.node).next = sym (ap (λ (n : Node). n.next) e) in
      rw (c.set_previous.ensures.nodes, c.set_next.ensures.nodes, c.set_previous.ensures.ends, c.set_next.ensures.ends, ← ep, ← en)
      (ShowsLists-out c.args.nodes.now c.args.ends.now lists c.args.list c.args.node before after shows is c.requires.list);
}
