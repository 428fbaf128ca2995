use Rattle.std.proofs.Common.{arith}
use Rattle.ospf_routes.specs.steps.Lanes.{lane_of_listeners}
use Rattle.ospf_routes.proofs.ListenerLaws.{heard_decides, home_excepted, none_offered}
use Rattle.ospf_routes.proofs.listeners.listened_decision.Goals as goal

pub returns-in-empty : goal.returns-in-empty
returns-in-empty c = λ u below listening.
    let domain = c.args.listeners.domain.now in
    let listens = c.args.listeners.listens.now in
    let zone = c.args.listeners.zone in
    let d = c.args.destination.now in
    heard_decides (lane_of_listeners c.args.listeners) u d c.args.heard.now c.heard_decision.result c.excepting.result c.requires.areas c.requires.listens
    c.requires.heard
    c.requires.no_range below listening c.heard_decision.ensures c.excepting.ensures.is
    (home_excepted domain.net d c.as_slice-in-empty.result.now listens zone u c.excepting.result c.requires.destination.is
    c.as_slice-in-empty.ensures.value
    c.excepting.ensures.homes listening)
    (λ not. none_offered domain.net d c.as_slice.result.now u c.requires.destination.is c.as_slice.ensures.value
    (omega (arith, c.in-empty.len_below)))
