use Rattle.refutation_check.proofs.start.are_changes_in_order.Goals as goal

pub returns-then-are_number_words : goal.returns-then-are_number_words
returns-then-are_number_words c = (
  λ e. record { changes = c.are_number_words.ensures.0 c.if-are_number_words.true; in_order = c.stand_in_order.ensures.0 e },
  λ held. c.stand_in_order.ensures.1 held.in_order,
)
