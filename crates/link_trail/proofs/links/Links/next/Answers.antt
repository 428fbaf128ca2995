use Rattle.std.proofs.Common.{◌≡◌, ◌<◌, length, ap, sym, ◌∙◌, subst}
use Rattle.link_trail.specs.declared.chain.Node.{Node}
use Rattle.link_trail.specs.Chains.{node_at, free_node}
use Rattle.link_trail.specs.Lists.{LinkedLists}
use Rattle.link_trail.proofs.SpliceLemmas.{ShowsLists-node}
use Rattle.link_trail.proofs.WholeLemmas.{read}
use Rattle.link_trail.proofs.links.Links.next.Goals as goal

pub returns : goal.returns
returns c =
    let l : c.args.node < length c.self.inside.nodes.items = subst (λ (v : LinkedLists). c.args.node < v.nodes) (sym c.self.view_is) c.requires in
    let is : node_at c.self.inside.nodes.items c.args.node ≡ c.index.result.now =
    read c.self.inside.nodes.items c.args.node c.index.result.now free_node l c.index.ensures in
    let next = ap (λ (n : Node). n.next) is in
    rw (← c.self.view_is) (record {
      linked = λ list before after l' stood. sym next ∙ ap (λ (n : Node). n.next)
          (ShowsLists-node c.self.inside.nodes.items c.self.inside.ends.items _ list c.args.node before after c.self.invariant.links.shown stood l');
      free = λ free. sym next ∙ ap (λ (n : Node). n.next) (c.self.invariant.links.shown.free c.args.node free);
    })
