-- No sum of a distance and of what an offer asks is too large.
use Rattle.std.proofs.lemmas.Grind.{common_steps}
use Rattle.std.proofs.Common.{◌≡◌, ℕ, ◌+◌, ◌*◌, ◌^◌, ◌<◌, ◌≤◌, ◌↔◌, refl, List, [], length, get_or, Option, Some, sym, subst, arith}
use Rattle.std.specs.Option.{IfSome}
use Rattle.std.proofs.lemmas.List.Elements.{All-contains}
use Rattle.std.proofs.lemmas.Option.{slice_get-get_or}
use Rattle.net_addr.specs.Addresses.{Block}
use Rattle.net_model.proofs.NetworkFacts.{HasConfiguration-keeps, UpInterface-keeps, InArea-within}
use Rattle.net_model.specs.Configuration.{IsInterface, IsRange, IsStub}
use Rattle.net_model.specs.Network.{Network, Adjacent}
use Rattle.net_model.specs.Refusals.{IsNetwork}
use Rattle.net_model.specs.declared.zone.Zone.TheVariants.{Area}
use Rattle.walk_core.specs.Offers.{Offers}
use Rattle.walk_core.specs.Walks.{LeastCost}
use Rattle.walk_core.specs.Reach.{Reach, AreNear}
use Rattle.walk_core.specs.BestOffers.{AreInRange, ListsOffer}
use Rattle.walk_core.specs.declared.offers.Offer.{Offer}
use Rattle.zone_graph.specs.Walks.{AreZoneWalks}
use Rattle.igp_theory.specs.Ospf.{OffersSubnet, IntraAreaCost, RangeCost, stated, least, greatest, BackboneSummary, AreaSummary, BorderCost, Summary}
use Rattle.igp_theory.specs.Ospf.{into_backbone, into_area}
use Rattle.net_model.specs.declared.area.Range.{Range}
use Rattle.ospf_routes.specs.steps.Areas.{AreAreas, HasArea, IsArea}
use Rattle.route_tables.proofs.BestRoutes.{offers_in_range}
use Rattle.ospf_routes.specs.steps.Offered.{AreOffers}
use Rattle.ospf_routes.specs.declared.areas.AreaWalks.{AreaWalks}

-- Lists of offers

pub lists_from : (offer : Offers) (offers given : List Offer) → AreOffers offer offers → given ≡ offers → (at asks : ℕ) →
    ListsOffer given at asks ↔ offer at asks
lists_from offer offers given are same at asks =
    let listed : AreOffers offer given = subst (λ (l : List Offer). AreOffers offer l) (sym same) are in (
      λ l. subst (λ (w : ℕ). offer w asks) l.made (subst (λ (c : ℕ). offer l.offer.at c) l.asked ((listed l.offer).0 l.among)),
      λ o. let one : Offer = record { at = at; asks = asks } in record { offer = one; among = (listed one).1 o; made = refl; asked = refl },
    )

-- offers that ask less than 2^42 are in range over distances of at most 200 arcs
pub in_range : (reach : Reach) (offer : Offers) (offers given : List Offer) → AreNear 200 reach → AreOffers offer offers → given ≡ offers →
    ((at asks : ℕ) → offer at asks → asks < 2 ^ 42) → AreInRange reach given
in_range reach offer offers given near are same small = offers_in_range reach offer given near (lists_from offer offers given are same) small

no_walks : Reach
no_walks = record { distances = []; hops = [] }

-- a least walk costs less than one arc of 2^32 for each of 200 routers
pub walk_is_near : (net : Network) (areas : List AreaWalks) (n u v d : ℕ) → AreAreas net areas → HasArea areas n → u < length net →
    LeastCost (Adjacent net (Area n)) u v d → d < 200 * 2 ^ 32
walk_is_near net areas n u v d are has within far =
    let of_n : AreZoneWalks net (Area n) has.area.walks.value =
    subst (λ (m : ℕ). AreZoneWalks net (Area m) has.area.walks.value) has.number (All-contains (IsArea net) areas has.area are.each has.among).walks in
    let inside : u < length has.area.walks.value = omega (arith, of_n.routers) in
    let reach : Reach = get_or has.area.walks.value u no_walks in
    let here = slice_get-get_or has.area.walks.value u no_walks inside in
    of_n.near u reach here v d (((of_n.least u reach here).distances v d).1 far)

pub subnet_is_small : (net : Network) (n : ℕ) (p : Block) (w cost : ℕ) → IsNetwork net → OffersSubnet net n p w cost → cost < 2 ^ 24
subnet_is_small net n p w cost network offers =
    let keeps : IsInterface offers.interface = UpInterface-keeps net w offers.interface network offers.up in
    let most : offers.interface.cost ≤ 65535 = keeps.cost.1 in
    let is : offers.interface.cost ≡ cost = offers.costs in
    omega arith

pub intra_is_small : (net : Network) (areas : List AreaWalks) (n : ℕ) (p : Block) (u cost : ℕ) → AreAreas net areas → IntraAreaCost net n p u cost →
    cost < 2 ^ 41
intra_is_small net areas n p u cost are costs =
    let attained = costs.best.attained in
    let near : attained.walk < 200 * 2 ^ 32 = walk_is_near net areas n u costs.best.at attained.walk are (are.every u n costs.inside)
    (InArea-within net u n costs.inside) attained.reached in
    let small : attained.asks < 2 ^ 24 = subnet_is_small net n p costs.best.at attained.asks are.network attained.offered in
    let sum : attained.walk + attained.asks ≡ cost = attained.costs in
    omega arith

stated_is_small : (o : Option ℕ) (c : ℕ) → o ≡ Some c → IfSome o (λ k. k ≤ 16777214) → c ≤ 16777214
stated_is_small o c is small = grind (arith, common_steps)

pub range_is_small : (net : Network) (areas : List AreaWalks) (b : ℕ) (r : Range) (cost : ℕ) → AreAreas net areas → RangeCost net b r cost → cost < 2 ^ 41
range_is_small net areas b r cost are (stated is active) =
    let has = active.component.range in
    let keeps : IsRange r = All-contains IsRange has.config.ranges r (HasConfiguration-keeps net b has.config are.network has.router).ranges has.among in
    let most : cost ≤ 16777214 = stated_is_small r.cost cost is keeps.cost in
    omega arith
range_is_small net areas b r cost are (least _ _ p component _) = intra_is_small net areas r.area p b cost are component.reached
range_is_small net areas b r cost are (greatest _ _ p component _) = intra_is_small net areas r.area p b cost are component.reached

pub backbone_is_small : (net : Network) (areas : List AreaWalks) (p : Block) (b cost : ℕ) → AreAreas net areas → BackboneSummary net p b cost → cost < 2 ^ 41
backbone_is_small net areas p b cost are (BackboneSummary.of_subnet s) = intra_is_small net areas s.area p b cost are s.costs
backbone_is_small net areas p b cost are (BackboneSummary.of_range s) = range_is_small net areas b s.range cost are s.costs

pub border_is_small : (net : Network) (areas : List AreaWalks) (p : Block) (u cost : ℕ) → AreAreas net areas → BorderCost net p u cost → cost < 2 ^ 42
border_is_small net areas p u cost are costs =
    let attained = costs.best.attained in
    let near : attained.walk < 200 * 2 ^ 32 = walk_is_near net areas 0 u costs.best.at attained.walk are are.backbone
    (InArea-within net u costs.border.one costs.border.in_one) attained.reached in
    let small : attained.asks < 2 ^ 41 = backbone_is_small net areas p costs.best.at attained.asks are attained.offered.offered in
    let sum : attained.walk + attained.asks ≡ cost = attained.costs in
    omega arith

area_is_small : (net : Network) (areas : List AreaWalks) (n : ℕ) (p : Block) (b cost : ℕ) → AreAreas net areas → AreaSummary net n p b cost → cost < 2 ^ 42
area_is_small net areas n p b cost are (AreaSummary.of_subnet _ s) =
    let small : cost < 2 ^ 41 = intra_is_small net areas s.area p b cost are s.costs in omega arith
area_is_small net areas n p b cost are (AreaSummary.of_range _ s) =
    let small : cost < 2 ^ 41 = range_is_small net areas b s.range cost are s.costs in omega arith
area_is_small net areas n p b cost are (AreaSummary.of_route _ s) = border_is_small net areas p b cost are s
area_is_small net areas n p b cost are (AreaSummary.of_stub _ _ s has is) =
    let keeps : IsStub s = All-contains IsStub has.config.stubs s (HasConfiguration-keeps net b has.config are.network has.router).stubs has.among in
    let most : s.default_cost ≤ 16777214 = keeps.default_cost in
    omega arith

pub summary_is_small : (net : Network) (areas : List AreaWalks) (n : ℕ) (p : Block) (b cost : ℕ) → AreAreas net areas → Summary net p n b cost → cost < 2 ^ 42
summary_is_small net areas n p b cost are (into_backbone s) =
    let small : cost < 2 ^ 41 = backbone_is_small net areas p b cost are s in omega arith
summary_is_small net areas n p b cost are (into_area _ s) = area_is_small net areas n p b cost are s
