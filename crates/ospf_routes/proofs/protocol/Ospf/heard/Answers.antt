use Rattle.std.proofs.Common.{◌≡◌, ◌<◌, ◌+◌, ◌*◌, ℕ, List, length, arith, sym, subst}
use Rattle.std.proofs.lemmas.List.{length-map}
use Rattle.walk_core.specs.declared.offers.Offer.{Offer}
use Rattle.route_tables.specs.Prefixes.{prefix_at}
use Rattle.ospf_routes.specs.steps.Destinations.{ospf_prefixes}
use Rattle.ospf_routes.specs.steps.Heard.{AreHeardAt}
use Rattle.ospf_routes.specs.steps.Networks.{IsOspf, OspfNetwork}
use Rattle.ospf_routes.specs.steps.OfferLists.{heard_into}
use Rattle.ospf_routes.specs.declared.intra_area.Destination.{Destination}
use Rattle.ospf_routes.proofs.HeardFacts.{announced_within}
use Rattle.ospf_routes.proofs.protocol.Ospf.heard.Goals as goal

-- the list is there, and is what is announced of the prefix
listed : {own ospf : OspfNetwork} (place zone : ℕ) → own ≡ ospf → IsOspf own → place < length (ospf_prefixes ospf.destinations) →
    zone < length ospf.domain.areas → (place * own.summaries.areas + zone < length own.summaries.lists) ×
    AreHeardAt ospf.domain (prefix_at (ospf_prefixes ospf.destinations) place) zone (heard_into own.summaries place zone)
listed {own} {ospf} place zone same is within below =
    let Heard : OspfNetwork → Type 0 =
    λ o. AreHeardAt o.domain (prefix_at (ospf_prefixes o.destinations) place) zone (heard_into own.summaries place zone) in
    let long = length-map own.destinations (λ (d : Destination). d.dest) in
    let here = subst (λ (o : OspfNetwork). place < length (ospf_prefixes o.destinations)) (sym same) within in
    let inside : place < length own.destinations = omega (arith, long, here) in
    let known = subst (λ (o : OspfNetwork). zone < length o.domain.areas) (sym same) below in (
      announced_within own.domain own.destinations own.summaries place zone is.announced inside known,
      subst Heard same (is.announced.each place zone inside (subst (λ (n : ℕ). zone < n) (sym is.announced.areas_are) known)),
    )

pub returns : goal.returns
returns c =
    let ospf : OspfNetwork = c.args.self.now in
    subst (λ (l : List Offer). AreHeardAt ospf.domain (prefix_at (ospf_prefixes ospf.destinations) c.args.place) c.args.zone l)
    (sym c.into_area.ensures) (listed c.args.place c.args.zone c.self.view_is c.self.invariant c.requires.place c.requires.zone).1
