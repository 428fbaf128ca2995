use Rattle.observed_night.proofs.PartFacts.{all_among, same_items}
use Rattle.observed_night.proofs.items.have_same_items.Goals as goal

pub returns-then-are_among : goal.returns-then-are_among
returns-then-are_among g c = (
  λ t. same_items c.args.ones.now c.args.others.now (c.are_among.ensures.0 c.if-are_among.true) (c.are_among-then-are_among.ensures.0 t),
  λ same. c.are_among-then-are_among.ensures.1 (all_among c.args.others.now c.args.ones.now (λ item. (same item).1)),
)

pub returns-else-are_among : goal.returns-else-are_among
returns-else-are_among g c = (
  λ t. let not = c.if-are_among.false in absurd cc,
  λ same. c.are_among.ensures.1 (all_among c.args.ones.now c.args.others.now (λ item. (same item).0)),
)
