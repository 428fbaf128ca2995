use Rattle.std.proofs.lemmas.Grind.{common_steps}
use Rattle.std.proofs.Common.{◌≡◌, ℕ, List, Some, length, get_or, subst, sym, ap, arith, ◌∙◌, refl}
use Rattle.std.proofs.lemmas.List.{length_push}
use Rattle.std.specs.Option.{IsSome}
use Rattle.link_trail.specs.declared.chain.Node.{Node}
use Rattle.link_trail.specs.declared.links.Links.TheInside.{Inside}
use Rattle.link_trail.specs.declared.moves.Move.{Move}
use Rattle.link_trail.specs.declared.moves.Move.TheVariants.{Unlinked}
use Rattle.link_trail.specs.Lists.{LinkedLists, IsLinked}
use Rattle.link_trail.specs.Chains.{ShowsLists, node_at, free_node}
use Rattle.link_trail.specs.steps.Splices.{TakesOut, kept}
use Rattle.link_trail.specs.Moves.{AreLinks, lists_after, no_lists}
use Rattle.link_trail.proofs.MoveLemmas.{after-more, before-more}
use Rattle.link_trail.proofs.WholeLemmas.{IsPlaced, Stands, links-unlinked, stands, placed, read, refilled}
use Rattle.link_trail.proofs.links.Links.unlink.Goals as goal

module _ (a : Inside) (v : LinkedLists) (node : ℕ) (links : AreLinks a.nodes.items a.ends.items a.moves.items)
    (is : lists_after (no_lists (length a.ends.items)) a.moves.items ≡ v.lists) (linked : IsLinked v.lists node) where
  shown : ShowsLists a.nodes.items a.ends.items v.lists
  shown = subst (λ ls. ShowsLists a.nodes.items a.ends.items ls) is links.shown

  -- where the node stands
  stands_now : Stands a.nodes.items a.ends.items v.lists node
  stands_now = stands a.nodes.items a.ends.items v.lists node shown linked

  -- what was read of it
  read_now : (n : Node) → n ≡ get_or a.nodes.items node n → node_at a.nodes.items node ≡ n
  read_now n got = read a.nodes.items node n free_node stands_now.node_in_range got

  -- it may be taken out of the list that was read
  placed_now : (n : Node) (list : ℕ) → n ≡ get_or a.nodes.items node n → n.list ≡ Some list → IsPlaced a.nodes.items a.ends.items list node
  placed_now n list got own =
      placed a.nodes.items a.ends.items v.lists node list shown linked (ap (λ (x : Node). x.list) (read_now n got) ∙ own)

pub index-requires : goal.index-requires
index-requires c =
    let at = stands_now c.self.inside c.args.self.now c.args.node c.self.invariant.links (ap (λ (v : LinkedLists). v.lists) c.self.view_is)
    c.requires.linked in
    omega (arith, at.node_in_range)

pub unwrap-list-requires : goal.unwrap-list-requires
unwrap-list-requires c =
    let lists = ap (λ (v : LinkedLists). v.lists) c.self.view_is in
    let at = stands_now c.self.inside c.args.self.now c.args.node c.self.invariant.links lists c.requires.linked in
    let is = read_now c.self.inside c.args.self.now c.args.node c.self.invariant.links lists c.requires.linked c.index.result.now c.index.ensures in
    subst (λ o. IsSome o) (sym (ap (λ (n : Node). n.list) at.is) ∙ ap (λ (n : Node). n.list) is) refl

pub splice_out-requires-clause-list : goal.splice_out-requires-clause-list
splice_out-requires-clause-list c = rw c.deref_mut-2.ensures.value
    (placed_now c.self.inside c.args.self.now c.args.node c.self.invariant.links (ap (λ (v : LinkedLists). v.lists) c.self.view_is)
    c.requires.linked c.index.result.now c.unwrap-list.result c.index.ensures c.unwrap-list.ensures).list_in_range

pub splice_out-requires-clause-node : goal.splice_out-requires-clause-node
splice_out-requires-clause-node c = rw c.deref_mut.ensures.value
    (stands_now c.self.inside c.args.self.now c.args.node c.self.invariant.links (ap (λ (v : LinkedLists). v.lists) c.self.view_is)
    c.requires.linked).node_in_range

pub splice_out-requires-clause-previous : goal.splice_out-requires-clause-previous
splice_out-requires-clause-previous c = rw c.deref_mut.ensures.value
    (placed_now c.self.inside c.args.self.now c.args.node c.self.invariant.links (ap (λ (v : LinkedLists). v.lists) c.self.view_is)
    c.requires.linked c.index.result.now c.unwrap-list.result c.index.ensures c.unwrap-list.ensures).previous_in_range

pub splice_out-requires-clause-next : goal.splice_out-requires-clause-next
splice_out-requires-clause-next c = rw c.deref_mut.ensures.value
    (placed_now c.self.inside c.args.self.now c.args.node c.self.invariant.links (ap (λ (v : LinkedLists). v.lists) c.self.view_is)
    c.requires.linked c.index.result.now c.unwrap-list.result c.index.ensures c.unwrap-list.ensures).next_in_range

pub invariant_of-self : goal.invariant_of-self
invariant_of-self c =
    let a = c.self.inside in
    let new = c.splice_out.new in
    let linked : IsLinked (lists_after (no_lists (length a.ends.items)) a.moves.items) c.args.node =
    subst (λ (v : LinkedLists). IsLinked v.lists c.args.node) (sym c.self.view_is) c.requires.linked in
    let is : node_at a.nodes.items c.args.node ≡ c.index.result.now = read_now a c.args.self.now c.args.node c.self.invariant.links
    (ap (λ (v : LinkedLists). v.lists) c.self.view_is) c.requires.linked c.index.result.now c.index.ensures in
    let spare = ap (λ (v : LinkedLists). v.spare) c.self.view_is in
    let takes : TakesOut (kept a.nodes.items a.ends.items) (kept new.nodes new.ends) c.unwrap-list.result c.args.node =
    rw (c.deref_mut.ensures.value, c.deref_mut-2.ensures.value) at c.splice_out.ensures in
    record {
      links = rw (
        refilled a.nodes.len new.nodes a.nodes.items (omega arith),
        refilled a.ends.len new.ends a.ends.items (omega arith),
      )
          (subst (λ (ms : List Move). AreLinks new.nodes new.ends ms) (sym c.record_move.ensures.items)
          (links-unlinked a.nodes.items new.nodes a.ends.items new.ends a.moves.items c.unwrap-list.result c.args.node c.index.result.now.previous
          c.self.invariant.links linked (ap (λ (n : Node). n.list) is ∙ c.unwrap-list.ensures) (ap (λ (n : Node). n.previous) is) takes
          (omega arith) (omega arith)));
      within = omega (
        arith,
        spare,
        c.requires.spare,
        ap (λ (ms : List Move). length ms) c.record_move.ensures.items
            ∙ length_push a.moves.items (Unlinked c.unwrap-list.result c.args.node c.index.result.now.previous),
      );
      reserved = omega (arith, c.self.invariant.reserved, c.record_move.ensures.capacity);
      bound = c.self.invariant.bound;
    }

pub returns-clause-lists : goal.returns-clause-lists
returns-clause-lists c = grind (arith, common_steps, after-more, refilled)

pub returns-clause-trail : goal.returns-clause-trail
returns-clause-trail c = grind (arith, common_steps, before-more, refilled)
