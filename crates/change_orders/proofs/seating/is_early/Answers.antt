use Rattle.change_orders.proofs.FoundItems.{early_if}
use Rattle.change_orders.proofs.seating.is_early.Goals as goal

pub returns-then-item-eq1 : goal.returns-then-item-eq1
returns-then-item-eq1 c =
    early_if c.args.ranks.now c.args.wave c.args.item c.is_before.result c.if-item-eq1.true c.is_before.ensures.0 c.is_before.ensures.1
