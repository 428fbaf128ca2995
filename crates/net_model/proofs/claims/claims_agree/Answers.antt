use Rattle.std.proofs.Common.{List, length, subst}
use Rattle.std.proofs.lemmas.Bool.{OnTrue_at, OnTrue_from}
use Rattle.net_model.specs.steps.Claims.{NeighborsAgree}
use Rattle.net_model.specs.declared.claims.Claim.{Claim}
use Rattle.net_model.proofs.ClaimFacts.{ClaimsAgree-sorted}
use Rattle.net_model.proofs.claims.claims_agree.Goals as goal

pub returns : goal.returns
returns g c = OnTrue_from c.neighbors_agree.result _
    (λ yes. ClaimsAgree-sorted g.C.Claims.claimed c.args.configs.now c.in_ok-claims.claims.items c.sort_by_key.new.claims.items c.in_ok-claims.ensures
    c.sort_by_key.ensures.kept c.sort_by_key.ensures.sorted
    (subst (λ (l : List Claim). NeighborsAgree l (length l)) c.deref.ensures.value (OnTrue_at yes c.neighbors_agree.ensures)))
