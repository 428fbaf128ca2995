use Rattle.std.proofs.Common.{◌<◌, ℕ, List, length, arith, refl, sym}
use Rattle.route_tables.proofs.ListFacts.{all_at}
use Rattle.ospf_routes.specs.steps.Destinations.{IsDestinationIn}
use Rattle.ospf_routes.specs.declared.intra_area.Destination.{Destination}
use Rattle.ospf_routes.proofs.HeardFacts.{announced_within}
use Rattle.ospf_routes.proofs.LaneTwinFacts.{announced_at, outside_earlier, outside_later, outside_noted}
use Rattle.ospf_routes.proofs.TwinFacts.{destination_read}
use Rattle.ospf_routes.specs.steps.LaneTwins.{heard_lane}
use Rattle.ospf_routes.proofs.lane_twins.outside_twin.Goals as goal

pub is_outside-requires-clause-destination : goal.is_outside-requires-clause-destination
is_outside-requires-clause-destination c =
    (all_at (IsDestinationIn c.args.heard.domain.now) c.args.heard.destinations.now c.args.place c.index-destinations-place.result
    c.requires.destinations.each c.requires.place c.index-destinations-place.is).is

pub into_area-requires : goal.into_area-requires
into_area-requires c =
    let far = c.requires.latest c.number_of_announcer.result c.in_ok-earlier.earlier (sym c.in_ok-earlier.ensures.earlier) in
    announced_within c.args.heard.domain.now c.args.heard.destinations.now c.args.heard.summaries.now c.in_ok-earlier.earlier
    c.args.zone c.requires.summaries (omega (arith, far.earlier, c.requires.place)) c.requires.zone

pub returns-then-not-is_outside-clause-latest : goal.returns-then-not-is_outside-clause-latest
returns-then-not-is_outside-clause-latest c =
    outside_later (heard_lane c.args.heard c.args.zone) c.args.heard.destinations.now c.args.place
    c.args.latest.now c.requires.latest

pub returns-in_err-earlier-clause-latest : goal.returns-in_err-earlier-clause-latest
returns-in_err-earlier-clause-latest c =
    outside_noted _ _ _ _ _ _ _ c.requires.latest c.index-destinations-place.is (c.if-not-is_outside.ensures refl) c.replace.ensures.noted

pub returns-else-are_alike-clause-latest : goal.returns-else-are_alike-clause-latest
returns-else-are_alike-clause-latest c =
    outside_noted _ _ _ _ _ _ _ c.requires.latest c.index-destinations-place.is (c.if-not-is_outside.ensures refl) c.replace.ensures.noted

pub returns-then-are_alike-clause-latest : goal.returns-then-are_alike-clause-latest
returns-then-are_alike-clause-latest c =
    outside_noted _ _ _ _ _ _ _ c.requires.latest c.index-destinations-place.is (c.if-not-is_outside.ensures refl) c.replace.ensures.noted

pub returns-then-are_alike-clause-twin : goal.returns-then-are_alike-clause-twin
returns-then-are_alike-clause-twin c =
    let domain = c.args.heard.domain.now in
    let ds : List Destination = c.args.heard.destinations.now in
    let listens = c.args.heard.listens.now in
    let zone : ℕ = c.args.zone in
    let heard = c.args.heard.summaries.now in
    let place : ℕ = c.args.place in
    let earlier : ℕ = c.in_ok-earlier.earlier in
    let far = c.requires.latest c.number_of_announcer.result earlier (sym c.in_ok-earlier.ensures.earlier) in
    let within : earlier < length ds = omega (arith, far.earlier, c.requires.place) in
    let e = c.index-destinations-place.result in
    outside_earlier domain ds listens zone place earlier far.d e c.into_area.result.now c.into_area-announced.result.now c.requires.listens far.earlier
    (destination_read domain ds earlier far.d c.requires.destinations within far.at)
    (destination_read domain ds place e c.requires.destinations c.requires.place c.index-destinations-place.is)
    (announced_at domain ds listens heard zone earlier far.d c.into_area.result.now c.requires.destinations c.requires.summaries c.requires.zone within
    far.at far.outside c.into_area.ensures)
    (announced_at domain ds listens heard zone place e c.into_area-announced.result.now c.requires.destinations c.requires.summaries c.requires.zone
    c.requires.place c.index-destinations-place.is (c.if-not-is_outside.ensures refl) c.into_area-announced.ensures)
    (c.are_alike.ensures.0 c.if-are_alike.true)
