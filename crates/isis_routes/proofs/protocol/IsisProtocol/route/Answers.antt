use Rattle.std.proofs.Common.{IfOk, MatchOption}
use Rattle.route_core.specs.declared.entry.Entry.{Entry}
use Rattle.igp_theory.specs.Isis.{IsisEntry}
use Rattle.isis_routes.specs.steps.Routes.{IsIsisRoute}
use Rattle.isis_routes.proofs.ProtocolFacts.{asked_as}
use Rattle.isis_routes.proofs.protocol.IsisProtocol.route.Goals as goal

pub returns : goal.returns
returns c =
    asked_as (λ domain u p. IfOk c.route_of.result (λ found. MatchOption found ((e : Entry) → IsisEntry domain.net u p e → ⊥)
    (IsIsisRoute domain u p))) c.asked.ensures.domain c.asked.ensures.router c.asked.ensures.dest c.route_of.ensures
