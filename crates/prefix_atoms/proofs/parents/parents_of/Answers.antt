use Rattle.std.proofs.Common.{◌≡◌, ℕ, Option, Some, slice_get, subst, sym}
use Rattle.net_addr.specs.Addresses.{Block}
use Rattle.prefix_atoms.specs.Nested.{AreParents, IsParent}
use Rattle.prefix_atoms.proofs.Pushed.{count_more, each_more}
use Rattle.prefix_atoms.proofs.parents.parents_of.Goals as goal

pub parent_at-parent-requires-clause-known : goal.parent_at-parent-requires-clause-known
parent_at-parent-requires-clause-known c =
    subst (AreParents c.args.prefixes.now) (sym c.as_slice.ensures.value) c.loop-place.invariant.known

pub loop-place-preserved : goal.loop-place-preserved
loop-place-preserved c = record {
  count = count_more c.loop-place.parents.items c.push.new.self.items c.parent_at-parent.result c.loop-place.place c.loop-place.invariant.count
      c.in_ok-push.ensures.items;
  known = λ i p parent at here.
      each_more (λ (k : ℕ) (o : Option ℕ). (q : Block) → slice_get c.args.prefixes.now k ≡ Some q → IsParent c.args.prefixes.now k q o)
      c.loop-place.parents.items c.push.new.self.items c.parent_at-parent.result c.loop-place.place c.loop-place.invariant.count
      (λ k o at_k q at_q. c.loop-place.invariant.known k q o at_q at_k) c.in_ok-push.ensures.items c.parent_at-parent.ensures i parent here p at;
}
