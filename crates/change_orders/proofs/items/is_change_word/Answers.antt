use Rattle.std.proofs.Common.{sym, ◌∙◌}
use Rattle.change_orders.proofs.ItemFacts.{change_word_if}
use Rattle.change_orders.proofs.items.is_change_word.Goals as goal

pub returns-then-word-gt2 : goal.returns-then-word-gt2
returns-then-word-gt2 c =
    let h = change_word_if c.args.word.now c.change_number.result c.if-word-gt2.true c.change_number.ensures.number in
    (λ t. h.0 (sym c.is_some.ensures ∙ t), λ w. c.is_some.ensures ∙ h.1 w)
