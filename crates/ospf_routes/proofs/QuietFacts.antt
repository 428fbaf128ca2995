-- Of what no border router summarizes nothing is announced.
use Rattle.std.proofs.Common.{◌≡◌, ◌≢◌, ℕ, List, [], length, arith, refl}
use Rattle.std.specs.List.{Any}
use Rattle.net_addr.specs.Addresses.{Block, default_prefix}
use Rattle.net_model.specs.Network.{Network, InArea}
use Rattle.walk_core.specs.declared.offers.Offer.{Offer}
use Rattle.igp_theory.specs.Ospf.{BackboneSummary, Summary, into_area, into_backbone}
use Rattle.route_tables.proofs.ListFacts.{adds_nothing}
use Rattle.ospf_routes.specs.steps.Domain.{OspfDomain}
use Rattle.ospf_routes.specs.steps.Heard.{IsLeaving, IsQuiet}
use Rattle.ospf_routes.specs.steps.Offered.{AreOffers}
use Rattle.ospf_routes.specs.steps.Summarized.{AreSummarized, HasDefault, IsHeard, IsOutgoing, IsPassedOn}
use Rattle.ospf_routes.specs.declared.area_route.AreaRoute.{AreaRoute}
use Rattle.ospf_routes.specs.declared.area_boundary.Leaving.{Leaving}
use Rattle.ospf_routes.proofs.SummaryFacts.{heard_in_area, no_backbone_cost}

-- no router announces it into an area that it is in
not_announced : (net : Network) (p : Block) (routes : List AreaRoute) (backbone : List Offer) (n b cost : ℕ) →
    AreSummarized net p routes →
    length routes ≡ 0 → AreOffers (BackboneSummary net p) backbone → length backbone ≡ 0 → p ≢ default_prefix → InArea net b n →
    Summary net p n b cost → ⊥
not_announced net p routes backbone _ b cost are empty into none apart inside (into_backbone summary) =
    let has = (into (record { at = b; asks = cost })).1 summary in
    omega (arith, has.1, none)
not_announced net p routes backbone n b cost are empty into none apart inside (into_area other summary) =
    let outgoing = adds_nothing [] (λ (o : Offer). Any (IsOutgoing net n o) routes) (λ o any. omega (arith, any.2, empty)) in
    let passed = adds_nothing [] (IsPassedOn net n p) (λ o is. no_backbone_cost net p o.at o.asks backbone into none is.costs) in
    let defaults = adds_nothing [] (HasDefault net n p) (λ o is. apart is.all) in
    let heard = heard_in_area net n p routes [] [] [] [] other are refl outgoing passed defaults in
    let has = (heard (record { at = b; asks = cost })).1 (record { inside = inside; summary = into_area other summary }) in
    omega (arith, has.1)

-- so nothing is announced of it into any area
pub quiet_everywhere : (domain : OspfDomain) (leaving : Leaving) → IsLeaving domain leaving → IsQuiet leaving → (n : ℕ) →
    AreOffers (IsHeard domain.net leaving.destination.now.dest n) []
quiet_everywhere domain leaving is quiet n = λ o. (
  λ has. absurd (omega (arith, has.1)),
  λ heard. absurd (not_announced domain.net leaving.destination.now.dest leaving.routes.now leaving.backbone.now n o.at o.asks
      is.routes
      quiet.no_routes is.backbone quiet.no_backbone quiet.apart heard.inside heard.summary),
)
