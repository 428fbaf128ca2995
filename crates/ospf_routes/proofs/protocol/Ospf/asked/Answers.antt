use Rattle.std.proofs.Common.{ℕ, None, [], ◌≡◌, ◌<◌, List, length, arith, sym, subst}
use Rattle.std.proofs.lemmas.List.{length-map}
use Rattle.net_addr.specs.Addresses.{Block}
use Rattle.route_tables.specs.Prefixes.{prefix_at}
use Rattle.ospf_routes.specs.steps.Destinations.{IsDestinationIn, ospf_prefixes}
use Rattle.ospf_routes.specs.steps.Networks.{OspfNetwork}
use Rattle.ospf_routes.specs.steps.Heard.{AreHeardAt}
use Rattle.ospf_routes.specs.steps.OfferLists.{heard_into}
use Rattle.ospf_routes.specs.declared.areas.AreaWalks.{AreaWalks}
use Rattle.ospf_routes.specs.declared.intra_area.Destination.{Destination}
use Rattle.ospf_routes.specs.steps.Areas.{IsListenerAt}
use Rattle.ospf_routes.proofs.HeardFacts.{announced_within, listened_inside}
use Rattle.ospf_routes.proofs.PlaceFacts.{place_read}
use Rattle.ospf_routes.specs.steps.Ranges.{AreActiveRanges}
use Rattle.ospf_routes.proofs.protocol.Ospf.asked.Goals as goal

pub into_some_area-heard-requires : goal.into_some_area-heard-requires
into_some_area-heard-requires c = λ zone is.
    let domain = c.self.inside.domain in
    let ds : List Destination = c.self.inside.destinations.items in
    let below : c.args.router < length domain.net =
    subst (λ (ospf : OspfNetwork). c.args.router < length ospf.domain.net) (sym c.self.view_is) c.requires.router in
    let within : c.args.place < length (ospf_prefixes ds) =
    subst (λ (ospf : OspfNetwork). c.args.place < length (ospf_prefixes ospf.destinations)) (sym c.self.view_is) c.requires.place in
    let long = length-map ds (λ (d : Destination). d.dest) in
    announced_within domain ds c.self.inside.summaries c.args.place zone c.self.invariant.announced (omega (arith, long, within))
    (listened_inside domain.net domain.areas c.self.inside.listens.items c.args.router zone c.index-listens.result.now c.self.invariant.listeners below
    c.index-listens.ensures is)

pub returns-clause-asked : goal.returns-clause-asked
returns-clause-asked c =
    let domain = c.self.inside.domain in
    let net = domain.net in
    let areas : List AreaWalks = domain.areas in
    let ds : List Destination = c.self.inside.destinations.items in
    let below : c.args.router < length net =
    subst (λ (ospf : OspfNetwork). c.args.router < length ospf.domain.net) (sym c.self.view_is) c.requires.router in
    let within : c.args.place < length (ospf_prefixes ds) =
    subst (λ (ospf : OspfNetwork). c.args.place < length (ospf_prefixes ospf.destinations)) (sym c.self.view_is) c.requires.place in
    let long = length-map ds (λ (d : Destination). d.dest) in
    let d : Destination = c.destination-destination.result.now in
    let same = sym (subst (λ (ospf : OspfNetwork). d.dest ≡ prefix_at (ospf_prefixes ospf.destinations) c.args.place) (sym c.self.view_is)
    c.destination-destination.ensures.dest) in
    record {
      router = below;
      listens = place_read (IsListenerAt net areas) None (length net) c.self.inside.listens.items c.args.router c.index-listens.result.now
          c.self.invariant.listeners below
          c.index-listens.ensures;
      ranges = place_read (AreActiveRanges net) [] (length net) c.self.inside.ranges.items c.args.router c.index-ranges.result.now c.self.invariant.ranges
          below c.index-ranges.ensures;
      destination = subst (λ (ospf : OspfNetwork). IsDestinationIn ospf.domain d) (sym c.self.view_is)
          c.destination-destination.ensures.known;
      heard = λ zone is.
          let inside : zone < length areas =
          listened_inside net areas c.self.inside.listens.items c.args.router zone c.index-listens.result.now c.self.invariant.listeners below
          c.index-listens.ensures is in
          subst (AreHeardAt domain d.dest zone) (sym (c.into_some_area-heard.ensures zone is))
          (subst (λ (p : Block). AreHeardAt domain p zone (heard_into c.self.inside.summaries c.args.place zone)) same
          (c.self.invariant.announced.each c.args.place zone (omega (arith, long, within))
          (subst (λ (n : ℕ). zone < n) (sym c.self.invariant.announced.areas_are) inside)));
    }
