use Rattle.std.proofs.Common.{ℕ, ◌∷◌, List, ◌++◌, get_or, sym, ap, ◌∙◌}
use Rattle.net_model.specs.RouterNames.{names_of}
use Rattle.change_orders.specs.TwoTexts.{item_word}
use Rattle.change_orders.proofs.TwoTextFacts.{line_more}
use Rattle.change_orders.proofs.writing.items_line.Goals as goal

pub loop-item-preserved : goal.loop-item-preserved
loop-item-preserved c =
    let names = names_of c.args.net.now in
    c.in_ok-line-2.ensures
    ∙ ap (λ (bs : List ℕ). bs ++ 32 ∷ item_word names (get_or c.args.items.now c.loop-item.item-index 0)) c.loop-item.invariant
    ∙ sym (line_more names c.args.word.now c.args.items.now c.loop-item.item-index 0 c.loop-item-test.true)
