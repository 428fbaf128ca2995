use Rattle.net_model.specs.steps.Claims.{HoldsClaims}
use Rattle.net_model.proofs.claims.all_claims.Given as goal

abbrev pub invariant-loop-router : goal.invariant-loop-router
invariant-loop-router g l = HoldsClaims g.C.Claims.claimed l.configs l.router l.claims.items
