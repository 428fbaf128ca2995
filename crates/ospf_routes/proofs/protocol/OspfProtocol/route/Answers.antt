use Rattle.std.proofs.Common.{length, IfOk, MatchOption}
use Rattle.route_core.specs.declared.entry.Entry.{Entry}
use Rattle.igp_theory.specs.Ospf.{OspfEntry}
use Rattle.route_tables.specs.Routings.{IsRouteFor}
use Rattle.ospf_routes.specs.steps.AreaReach.{area_reach}
use Rattle.ospf_routes.proofs.EntryFacts.{asked_as}
use Rattle.ospf_routes.proofs.protocol.OspfProtocol.route.Goals as goal

pub returns : goal.returns
returns c =
    asked_as (λ domain u p. IfOk c.route_of.result (λ found. MatchOption found ((e : Entry) → OspfEntry domain.net u p e → ⊥)
    (IsRouteFor (area_reach domain.areas u) (length domain.areas) (length domain.net) (OspfEntry domain.net u p))))
    c.asked.result _ _ _ c.asked.ensures.domain c.asked.ensures.router c.asked.ensures.dest c.route_of.ensures
