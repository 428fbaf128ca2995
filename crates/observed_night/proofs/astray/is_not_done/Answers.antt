use Rattle.std.proofs.Common.{◌≡◌, true, false}
use Rattle.observed_night.proofs.StateFacts.{undone_if}
use Rattle.observed_night.proofs.astray.is_not_done.Goals as goal

pub returns-in-Some : goal.returns-in-Some
returns-in-Some c =
    undone_if c.args.before.now c.args.now.now c.args.router _ c.may_be_in.result c.in-Some.ensures.may_be c.may_be_in.ensures

pub returns-in-None : goal.returns-in-None
returns-in-None c = (λ t. let e : false ≡ true = t in absurd cc, λ undone. absurd (c.in-None.ensures undone.phase undone.may_be))
