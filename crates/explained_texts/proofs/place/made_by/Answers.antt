use Rattle.explained_texts.proofs.OrderPhases.{made_none, made_one, made_past}
use Rattle.explained_texts.proofs.place.made_by.Goals as goal

pub returns-then-changed-router-clause-more : goal.returns-then-changed-router-clause-more
returns-then-changed-router-clause-more c =
    made_one c.args.order.now c.args.change c.args.router c.in-Some.changed.now c.in-Some.ensures.lookup.3.0 c.in-Some.ensures.lookup.1
    c.if-changed-router.true

pub returns-else-changed-router-clause-more : goal.returns-else-changed-router-clause-more
returns-else-changed-router-clause-more c =
    made_none c.args.order.now c.args.change c.args.router c.in-Some.changed.now c.in-Some.ensures.lookup.3.0 c.in-Some.ensures.lookup.1
    c.if-changed-router.false

pub returns-in-None-clause-more : goal.returns-in-None-clause-more
returns-in-None-clause-more c = made_past c.args.order.now c.args.change c.args.router c.in-None.ensures.lookup.3
