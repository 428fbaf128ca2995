use Rattle.std.proofs.Common.{ℕ, Contains, subst}
use Rattle.order_core.specs.Turns.{routers_of}
use Rattle.refutation_check.proofs.NameFacts.{one_router, says_entry}
use Rattle.refutation_check.proofs.names.further_turn.Goals as goal

pub returns-in_err-turn-clause-said : goal.returns-in_err-turn-clause-said
returns-in_err-turn-clause-said c = rw c.from_residual.ensures (λ turn says. absurd (c.in_err-turn.ensures.said turn says))

pub returns-then-has_turn-clause-said : goal.returns-then-has_turn-clause-said
returns-then-has_turn-clause-said c = λ turn says.
    subst (λ (v : ℕ). Contains (routers_of c.args.turns.now) v)
    (one_router c.args.net.now (c.in_ok-turn.ensures.network (says_entry c.args.net.now c.args.entry.now turn says)) c.args.entry.now
    c.in_ok-turn.turn turn c.in_ok-turn.ensures.said says)
    (c.has_turn.ensures.0 c.if-has_turn.true)
