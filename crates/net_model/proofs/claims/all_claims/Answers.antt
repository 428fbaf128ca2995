use Rattle.std.proofs.Common.{arith}
use Rattle.net_model.proofs.ClaimFacts.{HoldsClaims-more}
use Rattle.net_model.proofs.RouterFacts.{HasConfiguration-at}
use Rattle.net_model.proofs.claims.all_claims.Goals as goal

pub loop-router-preserved : goal.loop-router-preserved
loop-router-preserved g c =
    let net = c.args.configs.now in
    HoldsClaims-more g.C.Claims.claimed net c.loop-router.router c.index-configs-router.result c.loop-router.claims.items c.push_claims.new.claims.items
    (HasConfiguration-at net c.loop-router.router c.index-configs-router.result (omega arith) c.index-configs-router.is)
    c.in_ok-push_claims.ensures c.loop-router.invariant
