use Rattle.std.proofs.Common.{◌≡◌, ◌∙◌, subst, sym}
use Rattle.ospf_routes.specs.Lists.{Exactly}
use Rattle.ospf_routes.specs.steps.Areas.{IsAreaAt}
use Rattle.ospf_routes.specs.steps.Lanes.{lane_of_listeners}
use Rattle.ospf_routes.specs.steps.Members.{IsBorderIn}
use Rattle.ospf_routes.proofs.AreaFacts.{number_at}
use Rattle.ospf_routes.proofs.IntraFacts.{part_for}
use Rattle.ospf_routes.proofs.ListenerLaws.{heard_decides, home_excepted, listening_place, offers_decide, part_owned}
use Rattle.ospf_routes.proofs.listeners.part_decision.Goals as goal

pub returns-then-part-area : goal.returns-then-part-area
returns-then-part-area c = λ u below listening.
    let domain = c.args.listeners.domain.now in
    let listens = c.args.listeners.listens.now in
    let zone = c.args.listeners.zone in
    let d = c.args.destination.now in
    let part = c.args.part.now in
    let l = lane_of_listeners c.args.listeners in
    let place = listening_place l u c.requires.listens below listening in
    let here : place.area ≡ part.area = sym (c.if-part-area.true ∙ number_at domain.areas place.area zone c.area.result.now
    place.at c.area.ensures.is) in
    offers_decide l u d part c.as_slice.result.now c.few.result c.excepting.result c.area.ensures.known c.requires.destination
    below c.requires.one
    c.requires.part (subst (λ n. IsAreaAt domain.areas n zone) here place.at) c.as_slice.ensures.value c.few.ensures
    c.excepting.ensures.is
    (home_excepted domain.net d c.as_slice-homes.result.now listens zone u c.excepting.result c.requires.destination.is
    c.as_slice-homes.ensures.value
    c.excepting.ensures.homes listening)

pub returns : goal.returns
returns c = λ u below listening.
    let domain = c.args.listeners.domain.now in
    let listens = c.args.listeners.listens.now in
    let zone = c.args.listeners.zone in
    let d = c.args.destination.now in
    let part = c.args.part.now in
    let l = lane_of_listeners c.args.listeners in
    let place = listening_place l u c.requires.listens below listening in
    let part_is = part_for domain d part c.requires.destination c.requires.part in
    let decision = c.excepting-2.result in
    heard_decides l u d c.args.heard.now c.heard_decision.result decision c.area.ensures.known c.requires.listens
    c.requires.heard c.requires.no_range
    below listening c.heard_decision.ensures c.excepting-2.ensures.is
    (home_excepted domain.net d c.as_slice-homes.result.now listens zone u decision c.requires.destination.is
    c.as_slice-homes.ensures.value
    c.excepting-2.ensures.homes listening)
    (part_owned domain.net d part u place.area c.area-2.result.now.number c.as_slice-owners.result.now decision
    c.requires.destination.is c.requires.one
    c.requires.part place.listens
    (λ same. c.if-part-area.false (same ∙ sym (number_at domain.areas place.area zone c.area.result.now place.at
    c.area.ensures.is)))
    (number_at domain.areas part.area part.zone c.area-2.result.now part_is.at c.area-2.ensures.is)
    (subst (Exactly (IsBorderIn domain.net c.area-2.result.now.number)) (sym c.as_slice-owners.ensures)
    c.area-2.ensures.area.borders) c.excepting-2.ensures.owners)
