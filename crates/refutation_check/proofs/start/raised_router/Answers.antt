use Rattle.std.proofs.Common.{inl, inr, arith, refl}
use Rattle.change_orders.proofs.ItemFacts.{NamesItem-unique}
use Rattle.refutation_check.proofs.start.raised_router.Goals as goal

pub returns-then-item-most : goal.returns-then-item-most
returns-then-item-most c = record { item = c.in-Some.item; names = c.in-Some.ensures; below = c.if-item-most.true }

pub returns-else-item-most : goal.returns-else-item-most
returns-else-item-most c = record {
  more = omega (arith, c.if-item-most.false);
  named = λ i names.
      let same = NamesItem-unique c.args.net.now c.args.word.now i c.in-Some.item c.requires.ascending names c.in-Some.ensures in
      omega (arith, same);
  known = inr (c.in-Some.item, c.in-Some.ensures);
}

pub returns-in-None : goal.returns-in-None
returns-in-None c = record { more = omega arith; named = λ i names. absurd (c.in-None.ensures i names); known = inl refl }
