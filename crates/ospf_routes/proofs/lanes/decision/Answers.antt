use Rattle.std.proofs.Common.{◌≡◌, ◌∙◌, ℕ, List, length, refl, subst, sym}
use Rattle.std.specs.List.{Contains}
use Rattle.std.proofs.lemmas.Bool.{eqb-true}
use Rattle.igp_theory.specs.Ospf.{ListensTo}
use Rattle.ospf_routes.specs.steps.Areas.{IsAreaAt}
use Rattle.ospf_routes.specs.steps.Lanes.{LaneOf}
use Rattle.ospf_routes.specs.declared.intra_area.AreaOffers.{AreaOffers}
use Rattle.ospf_routes.proofs.AreaFacts.{number_at}
use Rattle.ospf_routes.proofs.LaneLaws.{homes_within, inner_place, inside_decides, nothing_decides, outside_at, outside_decides}
use Rattle.ospf_routes.proofs.lanes.decision.Goals as goal

pub decision_of-requires : goal.decision_of-requires
decision_of-requires c = homes_within c.args.domain.now.net c.args.destination.now c.requires.destination.is

pub decision_of-requires-in-None : goal.decision_of-requires-in-None
decision_of-requires-in-None c = homes_within c.args.domain.now.net c.args.destination.now c.requires.destination.is

pub returns-in-Some : goal.returns-in-Some
returns-in-Some c = λ u below inner.
    let net = c.args.domain.now.net in
    let areas = c.args.domain.now.areas in
    let zone = c.args.zone in
    let d = c.args.destination.now in
    let part = c.in-Some.part.now in
    let l : LaneOf = record { domain = c.args.domain.now; listens = c.args.listens.now; zone = zone } in
    let place = inner_place net areas c.args.listens.now zone u c.requires.listens below inner in
    let n : ℕ = place.area in
    let here : n ≡ part.area = sym (c.in-Some.ensures.area ∙ number_at areas n zone c.area.result.now place.at c.area.ensures.is) in
    inside_decides l u d part c.as_slice-in-Some.result.now c.decision_of.result c.area.ensures.known c.requires.destination below
    (subst (ListensTo net u) here place.listens) inner.alone
    (subst (λ (parts : List AreaOffers). Contains parts part) c.as_slice.ensures.value c.in-Some.ensures.among)
    (subst (λ n. IsAreaAt areas n zone) here place.at) c.as_slice-in-Some.ensures.value c.decision_of.ensures.few
    (λ is. c.decision_of.ensures.told u ((c.requires.destination.is.homes u).1 is) inner)

pub returns-then-is_empty : goal.returns-then-is_empty
returns-then-is_empty c = λ u below inner.
    let d = c.args.destination.now in
    let l : LaneOf = record { domain = c.args.domain.now; listens = c.args.listens.now; zone = c.args.zone } in
    nothing_decides l u d.dest c.args.heard.now c.args.heard.now c.area.ensures.known
    (outside_at l d c.area.result.now c.as_slice.result.now c.args.heard.now c.area.ensures.is c.requires.listens c.requires.destination.is
    c.requires.heard c.as_slice.ensures.value c.in-None.ensures.none u below inner) refl (eqb-true (length c.args.heard.now) 0 (sym c.if-is_empty.ensures))

pub returns-else-is_empty : goal.returns-else-is_empty
returns-else-is_empty c = λ u below inner.
    let d = c.args.destination.now in
    let l : LaneOf = record { domain = c.args.domain.now; listens = c.args.listens.now; zone = c.args.zone } in
    outside_decides l u d.dest c.args.heard.now c.args.heard.now c.decision_of-in-None.result c.area.ensures.known
    (outside_at l d c.area.result.now c.as_slice.result.now c.args.heard.now c.area.ensures.is c.requires.listens c.requires.destination.is
    c.requires.heard c.as_slice.ensures.value c.in-None.ensures.none u below inner) refl c.decision_of-in-None.ensures.few
    (λ is. c.decision_of-in-None.ensures.told u ((c.requires.destination.is.homes u).1 is) inner)
