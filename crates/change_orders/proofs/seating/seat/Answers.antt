use Rattle.std.proofs.Common.{◌<◌, ℕ, None, length, get_or, sym, ◌∙◌, arith}
use Rattle.std.proofs.lemmas.List.{get_or_default}
use Rattle.change_orders.proofs.FoundItems.{none_value, one_seated, seat_taken, some_value}
use Rattle.change_orders.proofs.seating.seat.Goals as goal

pub returns-then-is_some-clause-seated : goal.returns-then-is_some-clause-seated
returns-then-is_some-clause-seated c =
    let ranks = c.loop-item.ranks.items in
    let item : ℕ = get_or c.args.items.now c.loop-item.item-index 0 in
    let below : item < length ranks =
    omega (arith, c.loop-item.invariant.count, c.requires c.loop-item.item-index 0 c.loop-item-test.true) in
    let value = some_value c.index.result.now (sym c.if-is_some.ensures) in
    seat_taken c.args.items.now c.loop-item.item-index c.args.wave c.args.ranks.now.items ranks c.loop-item-test.true c.loop-item.invariant value.0
    (get_or_default ranks item None c.index.result.now below ∙ sym c.index.ensures ∙ value.1)

pub loop-item-preserved : goal.loop-item-preserved
loop-item-preserved c =
    let ranks = c.loop-item.ranks.items in
    let item : ℕ = get_or c.args.items.now c.loop-item.item-index 0 in
    let below : item < length ranks =
    omega (arith, c.loop-item.invariant.count, c.requires c.loop-item.item-index 0 c.loop-item-test.true) in
    let free = none_value c.index.result.now (sym c.if-is_some.ensures) in
    one_seated c.args.items.now c.loop-item.item-index c.args.wave c.args.ranks.now.items ranks c.loop-item-test.true c.loop-item.invariant below
    (get_or_default ranks item None c.index.result.now below ∙ sym c.index.ensures ∙ free)
