use Rattle.std.proofs.Common.{ℕ, List, subst}
use Rattle.net_model.specs.Lookups.{IsNamed}
use Rattle.refutation_check.proofs.NameFacts.{one_name}
use Rattle.refutation_check.proofs.names.turn_of.Goals as goal

pub returns-in_err-router-clause-said : goal.returns-in_err-router-clause-said
returns-in_err-router-clause-said c = rw c.from_residual-in_err-router.ensures (λ turn says.
    c.in_err-router.ensures.number turn.router
    (subst (λ (n : List ℕ). IsNamed c.args.net.now n turn.router)
    (one_name c.args.entry.now says.name c.in_ok-name.name.now turn.tag c.in_ok-name.tag says.entry c.in_ok-name.ensures) says.named))
