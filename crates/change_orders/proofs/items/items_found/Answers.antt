use Rattle.std.proofs.Common.{◌+◌, ℕ, List, Option, take, sym, subst}
use Rattle.std.specs.List.{AllZip}
use Rattle.change_orders.specs.steps.Found.{IsItemFound}
use Rattle.change_orders.proofs.FoundItems.{bytes_all, found_more}
use Rattle.change_orders.proofs.items.items_found.Goals as goal

pub loop-word-preserved : goal.loop-word-preserved
loop-word-preserved c =
    subst (λ (l : List (Option ℕ)). AllZip (IsItemFound c.args.net.now) (bytes_all (take (c.loop-word.word-index + 1) c.args.words.now)) l)
    (sym c.in_ok-push.ensures.items)
    (found_more c.args.net.now c.args.words.now c.loop-word.word-index _ c.loop-word.found.items c.item_of.result c.loop-word-test.true
    c.loop-word.invariant c.item_of.ensures)
