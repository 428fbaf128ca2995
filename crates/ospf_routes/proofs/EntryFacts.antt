-- The entries of a router, by its routes.
use Rattle.std.proofs.Common.{arith}
use Rattle.std.proofs.lemmas.Grind.{common_steps}
use Rattle.std.proofs.Common.{◌≡◌, ◌↔◌, ℕ, List, Option, None, Some, MatchOption, length, refl, subst, sym}
use Rattle.net_addr.specs.Addresses.{Block}
use Rattle.net_model.specs.Network.{Network, Connected}
use Rattle.net_model.specs.declared.area.Range.{Range}
use Rattle.net_model.specs.declared.interface.Interface.{Interface}
use Rattle.route_core.specs.declared.entry.Entry.{Entry}
use Rattle.route_core.specs.declared.entry.Entry.TheVariants.{Via}
use Rattle.walk_core.specs.BestOffers.{AreInRange, NoneTotals}
use Rattle.walk_core.specs.declared.offers.Offer.{Offer}
use Rattle.ospf_routes.specs.steps.Areas.{AreAreas, IsListenedPlace, IsReach}
use Rattle.ospf_routes.specs.steps.Domain.{OspfDomain}
use Rattle.ospf_routes.specs.steps.Heard.{AreHeardLike}
use Rattle.ospf_routes.specs.steps.Summarized.{IsHeard}
use Rattle.ospf_routes.proofs.CostBounds.{in_range, summary_is_small}
use Rattle.ospf_routes.proofs.RouteFacts.{listened_route_is}
use Rattle.igp_theory.specs.Ospf.{ListensTo, IsIntraArea, IsActiveRange, SummarizesSubnet, SummarizesRange}
use Rattle.igp_theory.specs.Ospf.{BackboneSummary, BorderCost, AreaSummary, Summary}
use Rattle.igp_theory.specs.Ospf.{into_backbone, into_area, InterAreaCost, OspfEntry, intra_area, discard, inter_area}
use Rattle.walk_core.specs.Reach.{Reach}
use Rattle.route_tables.specs.declared.route.Route.{Route}
use Rattle.route_tables.proofs.BestRoutes.{best_route_makes, route_by_hops}
use Rattle.ospf_routes.specs.declared.areas.AreaWalks.{AreaWalks}
use Rattle.ospf_routes.specs.declared.entry.Asked.{Asked}
use Rattle.ospf_routes.specs.declared.entry.Deciding.{Deciding}
use Rattle.ospf_routes.specs.steps.Asked.{HasNoEntry, IsDeciding, IsFoundRoute, IsQuestion, IsRoute}
use Rattle.ospf_routes.specs.steps.AreaReach.{area_reach}
use Rattle.route_tables.specs.BestRoutes.{AreBestHops, IsBestRoute}
use Rattle.std.specs.List.{Any, Contains}
use Rattle.std.proofs.lemmas.Option.{MatchOption-at_some}
use Rattle.ospf_routes.specs.declared.ranges.ActiveRange.{ActiveRange}
use Rattle.ospf_routes.specs.steps.Candidates.{IsOspfCandidate, all, range}
use Rattle.ospf_routes.specs.steps.Subnets.{joins_on}
use Rattle.ospf_routes.specs.steps.Routing.{IsListenedRoute, ListenedCost}
use Rattle.ospf_routes.proofs.RangeFacts.{active_range_is, intra_is_candidate, range_cost_active}

-- a connected prefix has no entry
pub connected_has_none : (net : Network) (u : ℕ) (p : Block) → Connected net u p → (e : Entry) → OspfEntry net u p e → ⊥
connected_has_none net u p is e it_5 = grind (arith, common_steps)

pub inter_cost_of : (net : Network) (u : ℕ) (p : Block) (cost : ℕ) → (IsIntraArea net p u → ⊥) → (IsActiveRange net p u → ⊥) → ListenedCost net p u cost →
    InterAreaCost net p u cost
inter_cost_of net u p cost no_intra no_range costs = grind (arith, common_steps)

-- what is announced into an area is in range over the walks there
pub heard_in_range : (net : Network) (areas : List AreaWalks) (n : ℕ) (p : Block) (reach : Reach) (offers given : List Offer) → AreAreas net areas →
    {u : ℕ} → IsReach net n u reach → AreHeardLike net p n offers → given ≡ offers → AreInRange reach given
heard_in_range net areas n p reach offers given are walks heard same =
    in_range reach (IsHeard net heard.of n) offers given walks.near heard.offers_are same (λ at asks r. summary_is_small net areas n heard.of at asks are r.summary)

-- the hops towards the best of the summaries that a router listens to make its entry
pub listened_entry : (net : Network) (n : ℕ) (p : Block) (u : ℕ) (reach : Reach) (offers given : List Offer) → (IsIntraArea net p u → ⊥) →
    (IsActiveRange net p u → ⊥) → ListensTo net u n → IsReach net n u reach → AreHeardLike net p n offers → given ≡ offers →
    (Connected net u p → ⊥) → (hops : List ℕ) → AreBestHops reach given (length net) hops → OspfEntry net u p (Via hops)
listened_entry net n p u reach offers given no_intra no_range listens walks heard same away hops best =
    let route : IsListenedRoute net p u hops =
    listened_route_is net n p u reach offers given no_intra no_range listens walks heard same (length net) refl (Some hops) best in
    inter_area away route.cost (inter_cost_of net u p route.cost no_intra no_range route.costs) route.hops_are

-- without a route there is no entry
pub no_route_no_entry : (net : Network) (u : ℕ) (p : Block) → (IsIntraArea net p u → ⊥) → (IsActiveRange net p u → ⊥) →
    ((cost : ℕ) → ListenedCost net p u cost → ⊥) → (e : Entry) → OspfEntry net u p e → ⊥
no_route_no_entry net u p no_intra no_range none e (intra_area _ is _) = no_intra is
no_route_no_entry net u p no_intra no_range none e (discard _ _ is _) = no_range is
no_route_no_entry net u p no_intra no_range none e (inter_area _ cost costs _) = none cost
    (record { area = costs.area; listens = costs.listens; best = costs.best })

-- what holds of what is asked holds of the network's own
pub asked_as : (P : OspfDomain → ℕ → Block → Type 0) (asked : Asked) (domain : OspfDomain) (u : ℕ) (p : Block) →
    asked.domain.now ≡ domain → asked.router ≡ u → asked.destination.now.dest ≡ p →
    P asked.domain.now asked.router asked.destination.now.dest → P domain u p
asked_as P asked domain u p domains routers dests is =
    subst (λ (q : Block). P domain u q) dests
    (subst (λ (v : ℕ). P domain v asked.destination.now.dest) routers
    (subst (λ (d : OspfDomain). P d asked.router asked.destination.now.dest) domains is))

-- the place of the area that the router listens to
pub listened_place : (asked : Asked) (zone : ℕ) → IsQuestion asked → asked.listens ≡ Some zone →
    IsListenedPlace asked.domain.now.net asked.domain.now.areas asked.router zone
listened_place asked zone is here = grind (arith, common_steps, MatchOption-at_some)

-- the prefix is connected at the router where it is at home, and has an active range where one is found
pub home_is : (asked : Asked) → IsQuestion asked → Contains asked.destination.now.homes.items asked.router ↔
    Connected asked.domain.now.net asked.router asked.destination.now.dest
home_is asked is = is.destination.is.homes asked.router

pub range_is : (asked : Asked) → IsQuestion asked → Any (λ (a : ActiveRange). a.range.dest ≡ asked.destination.now.dest) asked.ranges.now ↔
    IsActiveRange asked.domain.now.net asked.destination.now.dest asked.router
range_is asked is = active_range_is asked.domain.now.net asked.router asked.destination.now.dest asked.ranges.now is.ranges

-- Deciding offers

-- a route to the best of deciding offers makes the entry
pub decided_route : (asked : Asked) (d : Deciding) (n : ℕ) (route : Route) → IsDeciding asked d →
    (Connected asked.domain.now.net asked.router asked.destination.now.dest → ⊥) → n ≡ length asked.domain.now.net →
    IsBestRoute d.walks.now d.offers.now d.zone n route → IsRoute asked route
decided_route asked d n route decides away count is =
    let net : Network = asked.domain.now.net in
    let reach : ℕ → Reach = area_reach asked.domain.now.areas asked.router in
    route_by_hops reach (length asked.domain.now.areas) (length net) (AreBestHops d.walks.now d.offers.now (length net))
    (OspfEntry net asked.router asked.destination.now.dest) route (decides.entry away)
    (best_route_makes reach (length asked.domain.now.areas) (length net) d.zone d.walks.now d.offers.now route decides.zone decides.same
    (subst (λ (m : ℕ). IsBestRoute d.walks.now d.offers.now d.zone m route) count is))

pub decided_found : (asked : Asked) (d : Deciding) (n : ℕ) (found : Option Route) → IsDeciding asked d →
    (Connected asked.domain.now.net asked.router asked.destination.now.dest → ⊥) → n ≡ length asked.domain.now.net →
    MatchOption found (NoneTotals d.walks.now d.offers.now) (IsBestRoute d.walks.now d.offers.now d.zone n) →
    MatchOption found (NoneTotals d.walks.now d.offers.now) (IsRoute asked)
decided_found asked d n found decides away count none = grind (arith, common_steps, decided_route)

-- where none of them is reached there is no entry
pub found_by : (asked : Asked) (none : Type 0) (found : Option Route) → (none → HasNoEntry asked) → MatchOption found none (IsRoute asked) →
    IsFoundRoute asked found
found_by asked none None no_entry is = no_entry is
found_by asked none (Some route) no_entry is = is

-- Every prefix with an entry is a candidate

active_is_candidate : (net : Network) (u : ℕ) (p : Block) → IsActiveRange net p u → IsOspfCandidate net p
active_is_candidate net u p is =
    let has = is.active.component.range in
    let best = is.active.component.reached.best in
    let offers = best.attained.offered in
    let i : Interface = offers.interface in
    let r : Range = is.range in
    range (record {
      router = u;
      config = has.config;
      has_config = has.router;
      range = r;
      among = has.among;
      dest = is.dest;
      subnet = record { dest = is.active.dest; at = best.at; area = Some r.area; asks = best.attained.asks; joins = joins_on i };
      up = record { interface = i; up = offers.up; dest = offers.subnet; area = sym offers.area; costs = sym offers.costs; joins = refl };
      under = record { area = refl; covered = is.active.component.covered };
    })

subnet_summary_is_candidate : (net : Network) (n : ℕ) (p : Block) (b cost : ℕ) → SummarizesSubnet net n p b cost → IsOspfCandidate net p
subnet_summary_is_candidate net n p b cost s = intra_is_candidate net s.area p b cost s.costs

range_summary_is_candidate : (net : Network) (n : ℕ) (p : Block) (b cost : ℕ) → SummarizesRange net n p b cost → IsOspfCandidate net p
range_summary_is_candidate net n p b cost s = active_is_candidate net b p
    (record { range = s.range; active = range_cost_active net b s.range cost s.costs; dest = s.dest })

backbone_is_candidate : (net : Network) (p : Block) (b cost : ℕ) → BackboneSummary net p b cost → IsOspfCandidate net p
backbone_is_candidate net p b cost (BackboneSummary.of_subnet s) = subnet_summary_is_candidate net 0 p b cost s
backbone_is_candidate net p b cost (BackboneSummary.of_range s) = range_summary_is_candidate net 0 p b cost s

border_is_candidate : (net : Network) (p : Block) (b cost : ℕ) → BorderCost net p b cost → IsOspfCandidate net p
border_is_candidate net p b cost costs = backbone_is_candidate net p costs.best.at costs.best.attained.asks costs.best.attained.offered.offered

area_is_candidate : (net : Network) (n : ℕ) (p : Block) (b cost : ℕ) → AreaSummary net n p b cost → IsOspfCandidate net p
area_is_candidate net n p b cost (AreaSummary.of_subnet _ s) = subnet_summary_is_candidate net n p b cost s
area_is_candidate net n p b cost (AreaSummary.of_range _ s) = range_summary_is_candidate net n p b cost s
area_is_candidate net n p b cost (AreaSummary.of_route _ s) = border_is_candidate net p b cost s
area_is_candidate net n p b cost (AreaSummary.of_stub _ is _ _ _) = all is

summary_is_candidate : (net : Network) (n : ℕ) (p : Block) (b cost : ℕ) → Summary net p n b cost → IsOspfCandidate net p
summary_is_candidate net _ p b cost (into_backbone s) = backbone_is_candidate net p b cost s
summary_is_candidate net n p b cost (into_area _ s) = area_is_candidate net n p b cost s

pub entry_is_candidate : (net : Network) (u : ℕ) (p : Block) (e : Entry) → OspfEntry net u p e → IsOspfCandidate net p
entry_is_candidate net u p e (intra_area _ is _) = intra_is_candidate net is.area p u is.cost is.costs
entry_is_candidate net u p e (discard _ _ is _) = active_is_candidate net u p is
entry_is_candidate net u p e (inter_area _ cost costs _) =
    summary_is_candidate net costs.area p costs.best.at costs.best.attained.asks costs.best.attained.offered.offered
