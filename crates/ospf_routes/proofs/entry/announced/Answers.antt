use Rattle.std.proofs.Common.{length, None, refl}
use Rattle.ospf_routes.proofs.EntryFacts.{heard_in_range, listened_entry, listened_place, no_route_no_entry}
use Rattle.ospf_routes.proofs.RouteFacts.{listened_route_is}
use Rattle.ospf_routes.proofs.entry.announced.Goals as goal

pub returns-in-Some-clause-some : goal.returns-in-Some-clause-some
returns-in-Some-clause-some c =
    let asked = c.args.asked in
    let net = asked.domain.now.net in
    let p = asked.destination.now.dest in
    let l = listened_place asked c.in-Some.zone c.requires.asked c.in-Some.is in
    let reach = c.walks-walks.result.now in
    let offers = asked.heard.now in
    let walks = c.walks-walks.ensures.reach l.area l.at in
    let heard = c.requires.asked.heard c.in-Some.zone c.in-Some.is l.area l.at in
    record {
      zone = l.at.within;
      same = c.walks-walks.ensures.same;
      range = heard_in_range net asked.domain.now.areas l.area p reach offers offers c.walks-walks.ensures.known walks heard refl;
      entry = listened_entry net l.area p asked.router reach offers offers c.requires.no_intra c.requires.no_range l.listens walks heard refl;
    }

pub returns-in-Some-clause-reached : goal.returns-in-Some-clause-reached
returns-in-Some-clause-reached c = λ none.
    let asked = c.args.asked in
    let net = asked.domain.now.net in
    let u = asked.router in
    let p = asked.destination.now.dest in
    let l = listened_place asked c.in-Some.zone c.requires.asked c.in-Some.is in
    let offers = asked.heard.now in
    no_route_no_entry net u p c.requires.no_intra c.requires.no_range
    (listened_route_is net l.area p u c.walks-walks.result.now offers offers c.requires.no_intra c.requires.no_range l.listens
    (c.walks-walks.ensures.reach l.area l.at) (c.requires.asked.heard c.in-Some.zone c.in-Some.is l.area l.at) refl (length net) refl None none)
