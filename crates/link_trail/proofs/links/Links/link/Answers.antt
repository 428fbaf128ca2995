use Rattle.std.proofs.lemmas.Grind.{common_steps}
use Rattle.std.proofs.Common.{◌≡◌, ◌<◌, List, None, length, subst, sym, ap, arith, ◌∙◌}
use Rattle.std.proofs.lemmas.List.{length_push}
use Rattle.link_trail.specs.declared.chain.Ends.{Ends}
use Rattle.link_trail.specs.declared.moves.Move.{Move}
use Rattle.link_trail.specs.declared.moves.Move.TheVariants.{Linked}
use Rattle.link_trail.specs.Lists.{LinkedLists, IsFree}
use Rattle.link_trail.specs.Chains.{stretch_between, ends_at, no_ends}
use Rattle.link_trail.specs.steps.Splices.{PutsBetween, kept}
use Rattle.link_trail.specs.Moves.{AreLinks, lists_after, no_lists}
use Rattle.link_trail.proofs.MoveLemmas.{after-more, before-more}
use Rattle.link_trail.proofs.WholeLemmas.{links-linked, last-in_range, read, refilled}
use Rattle.link_trail.proofs.links.Links.link.Goals as goal

pub splice_in-requires-clause-previous : goal.splice_in-requires-clause-previous
splice_in-requires-clause-previous c = λ z e.
    let a = c.self.inside in
    let shown = c.self.invariant.links.shown in
    let l : c.args.list < length (lists_after (no_lists (length a.ends.items)) a.moves.items) =
    subst (λ (v : LinkedLists). c.args.list < length v.lists) (sym c.self.view_is) c.requires.list in
    let is : ends_at a.ends.items c.args.list ≡ c.index.result.now =
    read a.ends.items c.args.list c.index.result.now no_ends (omega (arith, shown.count)) c.index.ensures in
    rw c.deref_mut.ensures.value
    (last-in_range a.nodes.items a.ends.items _ c.args.list shown l z (ap (λ (x : Ends). x.last) is ∙ e))

pub invariant_of-self : goal.invariant_of-self
invariant_of-self c =
    let a = c.self.inside in
    let new = c.splice_in.new in
    let l : c.args.list < length (lists_after (no_lists (length a.ends.items)) a.moves.items) =
    subst (λ (v : LinkedLists). c.args.list < length v.lists) (sym c.self.view_is) c.requires.list in
    let free : IsFree (lists_after (no_lists (length a.ends.items)) a.moves.items) c.args.node =
    subst (λ (v : LinkedLists). IsFree v.lists c.args.node) (sym c.self.view_is) c.requires.free in
    let spare = ap (λ (v : LinkedLists). v.spare) c.self.view_is in
    let l' : c.args.list < length a.ends.items = omega (arith, c.self.invariant.links.shown.count) in
    let is : ends_at a.ends.items c.args.list ≡ c.index.result.now =
    read a.ends.items c.args.list c.index.result.now no_ends l' c.index.ensures in
    let puts : PutsBetween (kept a.nodes.items a.ends.items) (kept new.nodes new.ends)
    (stretch_between c.args.list (ends_at a.ends.items c.args.list).last None) c.args.node =
    rw is (rw (c.deref_mut.ensures.value, c.deref_mut-2.ensures.value) at c.splice_in.ensures) in
    record {
      links = rw (
        refilled a.nodes.len new.nodes a.nodes.items (omega arith),
        refilled a.ends.len new.ends a.ends.items (omega arith),
      )
          (subst (λ (ms : List Move). AreLinks new.nodes new.ends ms) (sym c.record_move.ensures.items)
          (links-linked a.nodes.items new.nodes a.ends.items new.ends a.moves.items c.args.list c.args.node c.self.invariant.links l' free puts
          (omega arith) (omega arith)));
      within = omega (
        arith,
        spare,
        c.requires.spare,
        ap (λ (ms : List Move). length ms) c.record_move.ensures.items ∙ length_push a.moves.items (Linked c.args.list c.args.node),
      );
      reserved = omega (arith, c.self.invariant.reserved, c.record_move.ensures.capacity);
      bound = c.self.invariant.bound;
    }

pub returns-clause-lists : goal.returns-clause-lists
returns-clause-lists c = grind (arith, common_steps, after-more, refilled)

pub returns-clause-trail : goal.returns-clause-trail
returns-clause-trail c = grind (arith, common_steps, before-more, refilled)
