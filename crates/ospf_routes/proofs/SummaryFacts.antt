-- What border routers summarize of a prefix, and announce into each area.
use Rattle.std.proofs.lemmas.Grind.{common_steps}
use Rattle.std.proofs.Common.{◌≡◌, ◌≢◌, ℕ, ◌<◌, ◌↔◌, ◌⊎◌, inl, inr, ⊎_elim, List, [], ◌∷◌, length, get_or, Option, Some, None, MatchOption, refl, sym, ap}
use Rattle.std.proofs.Common.{arith, subst, ◌∙◌}
use Rattle.std.specs.List.{Contains, Any, All}
use Rattle.std.proofs.lemmas.Option.{none-some, same_Some}
use Rattle.std.proofs.lemmas.List.Elements.{Contains-get_or}
use Rattle.net_addr.specs.Addresses.{Block, default_prefix}
use Rattle.net_model.proofs.Adjacency.{HasConfiguration-unique}
use Rattle.net_model.proofs.NetworkFacts.{Adjacent-in_area}
use Rattle.net_model.specs.Configuration.{Configuration}
use Rattle.net_model.specs.Network.{Network, HasConfiguration, InArea, IsBorderRouter, Adjacent}
use Rattle.net_model.specs.declared.area.Stub.{Stub}
use Rattle.net_model.specs.declared.zone.Zone.TheVariants.{Area}
use Rattle.walk_core.specs.Walks.{Arcs, LeastCost, Leg, Walks}
use Rattle.walk_core.specs.Offers.{Offers, OfferCosts, BestCost, BestHop}
use Rattle.walk_core.specs.Reach.{Reach}
use Rattle.walk_core.specs.BestOffers.{NoneTotals, IsBestTotal}
use Rattle.walk_core.specs.declared.offers.Offer.{Offer}
use Rattle.walk_core.proofs.WalkLaws.{SameArcs, SameOffers, best_cost_unique, best_cost_same}
use Rattle.igp_theory.specs.Ospf.{IntraAreaCost, IsIntraArea, IsActiveRange, BackboneSummary, AreaSummary, BorderCost, RangeCost, IsTotallyStubby}
use Rattle.igp_theory.specs.Ospf.{Summary, into_backbone, into_area, OfOthers, ListensTo, backbone, one_area}
use Rattle.ospf_routes.specs.steps.Areas.{IsArea, IsReach}
use Rattle.ospf_routes.specs.declared.areas.AreaWalks.{AreaWalks}
use Rattle.ospf_routes.specs.steps.Destinations.{IsDestination}
use Rattle.ospf_routes.specs.Lists.{Exactly, Adds}
use Rattle.ospf_routes.specs.steps.Members.{IsBorderIn}
use Rattle.ospf_routes.specs.steps.Offered.{AreOffers, OutsideOf}
use Rattle.ospf_routes.specs.steps.Ranges.{IsComponentOfSome, AreActiveRanges, AreRangesBelow, HoldRanges}
use Rattle.ospf_routes.specs.steps.Summarized.{IsAreaSubnet, SummarizedSubnet, IsListedRange, IsRangeRoute}
use Rattle.ospf_routes.specs.steps.Summarized.{SummarizedRange, SummarizedFrom, AreSummarized, OutsideSummary}
use Rattle.ospf_routes.specs.steps.Summarized.{Announces, IsPassedOn, IsHeard, IsOutgoing, IsDefault, RouterDefault, HasDefault}
use Rattle.ospf_routes.specs.declared.intra_area.AreaOffers.{AreaOffers}
use Rattle.ospf_routes.specs.declared.intra_area.Destination.{Destination}
use Rattle.ospf_routes.specs.declared.ranges.ActiveRange.{ActiveRange}
use Rattle.ospf_routes.specs.declared.area_route.AreaRoute.{AreaRoute}
use Rattle.net_addr.proofs.SomeElement.{any_of, any_in}
use Rattle.route_tables.proofs.ListFacts.{iff_then, exactly_same, exactly_added, adds_nothing, adds_same, adds_both}
use Rattle.route_tables.proofs.BestRoutes.{best_cost_is}
use Rattle.ospf_routes.proofs.BorderLists.{border_is_router}
use Rattle.ospf_routes.proofs.CostBounds.{lists_from}
use Rattle.ospf_routes.proofs.RangeFacts.{range_cost_active}

-- What one router summarizes

-- a subnet that router b summarizes out of area n has a cost there, and is no component
pub subnet_costs : {net : Network} {p : Block} {n b : ℕ} {r : AreaRoute} → r.at ≡ b → IsAreaSubnet net p n r → IntraAreaCost net n p b r.asks
subnet_costs {net} {p} {n} {b} {r} at is =
    subst (λ (u : ℕ). IntraAreaCost net n p u r.asks) at (subst (λ (m : ℕ). IntraAreaCost net m p r.at r.asks) is.area is.summarized.costs)

pub subnet_alone : {net : Network} {p : Block} {n b : ℕ} {r : AreaRoute} → r.at ≡ b → IsAreaSubnet net p n r → IsComponentOfSome net b p → ⊥
subnet_alone {net} {p} at is =
    subst (λ (u : ℕ). IsComponentOfSome net u p → ⊥) at (λ some. is.summarized.alone some.range some.cost some.component)

pub subnet_summary_some : (net : Network) (p : Block) (n b asks : ℕ) → IsBorderRouter net b → IntraAreaCost net n p b asks →
    (IsComponentOfSome net b p → ⊥) → (r : AreaRoute) →
    (Some (record { area = n; at = b; asks = asks }) ≡ Some r) ↔ ((r.at ≡ b) × IsAreaSubnet net p n r)
subnet_summary_some net p n b asks border costs alone r =
    let one : AreaRoute = record { area = n; at = b; asks = asks } in (
      λ same. subst (λ (x : AreaRoute). (x.at ≡ b) × IsAreaSubnet net p n x) (same_Some one r same) (
        refl,
        record {
          area = refl;
          summarized = record {
            at = refl;
            border = border;
            costs = costs;
            alone = λ range c is. alone (record { range = range; cost = c; component = is });
          };
        },
      ),
      λ is. ap Some (same_route is.0 is.1),
    )
  where
    same_route : r.at ≡ b → IsAreaSubnet net p n r → ◌≡◌ {A = AreaRoute} (record { area = n; at = b; asks = asks }) r
    same_route at is =
        let e : asks ≡ r.asks = best_cost_unique costs.best (subnet_costs at is).best in
        λ i. record { area = (sym is.area) i; at = (sym at) i; asks = e i }

pub area_subnets_are : (net : Network) (p : Block) (n : ℕ) (a : AreaWalks) (given : List ℕ) (old new : List AreaRoute) → IsArea net a → a.number ≡ n →
    given ≡ a.borders → Adds old new (λ (r : AreaRoute). Any (λ (b : ℕ). (r.at ≡ b) × IsAreaSubnet net p n r) given) → Adds old new (IsAreaSubnet net p n)
area_subnets_are net p n a given old new is_area number same adds =
    adds_same old new (λ (r : AreaRoute). Any (λ (b : ℕ). (r.at ≡ b) × IsAreaSubnet net p n r) given) (IsAreaSubnet net p n) adds (λ r. (
      λ any. (any_in (λ (b : ℕ). (r.at ≡ b) × IsAreaSubnet net p n r) given any).holds.1,
      λ is. any_of (λ (b : ℕ). (r.at ≡ b) × IsAreaSubnet net p n r) given r.at
          ((listed r.at).1 (record { inside = (subnet_costs refl is).inside; border = is.summarized.border })) (refl, is),
    ))
  where
    listed : Exactly (IsBorderIn net n) given
    listed = subst (Exactly (IsBorderIn net n)) (sym same) (subst (λ (m : ℕ). Exactly (IsBorderIn net m) a.borders) number is_area.borders)

pub subnets_are : (net : Network) (d : Destination) (given : List AreaOffers) → IsDestination net d → given ≡ d.parts.items → (r : AreaRoute) →
    Any (λ (part : AreaOffers). IsAreaSubnet net d.dest part.area r) given ↔ SummarizedSubnet net d.dest r.at r
subnets_are net d given is same r = (
  λ any. (any_in (λ (part : AreaOffers). IsAreaSubnet net d.dest part.area r) given any).holds.summarized,
  λ s.
      let best = s.costs.best in
      let has = is.every r.area best.at best.attained.asks best.attained.offered in
      any_of (λ (part : AreaOffers). IsAreaSubnet net d.dest part.area r) given has.part
      (subst (λ (l : List AreaOffers). Contains l has.part) (sym same) has.among) (record { area = sym has.area; summarized = s }),
)

ranges_are : (net : Network) (p : Block) (b : ℕ) (actives : List ActiveRange) → AreActiveRanges net b actives → (r : AreaRoute) →
    Any (λ (a : ActiveRange). IsRangeRoute a p b r) actives ↔ SummarizedRange net p b r
ranges_are net p b actives are r = (
  λ any.
      let f = any_in (λ (a : ActiveRange). IsRangeRoute a p b r) actives any in
      let costs = (are.exact f.item).0 f.among in
      record {
        at = f.holds.at;
        range = f.item.range;
        has = (range_cost_active net b f.item.range f.item.cost costs).component.range;
        dest = f.holds.dest;
        area = sym f.holds.area;
        advertised = f.holds.advertised;
        costs = subst (λ (c : ℕ). RangeCost net b f.item.range c) (sym f.holds.costs) costs;
      },
  λ s.
      let a : ActiveRange = record { range = s.range; cost = r.asks } in
      any_of (λ (x : ActiveRange). IsRangeRoute x p b r) actives a ((are.exact a).1 s.costs)
      (record { dest = s.dest; advertised = s.advertised; area = sym s.area; at = s.at; costs = refl }),
)

-- the ranges of all border routers
pub all_ranges_are : (net : Network) (p : Block) (ranges : List (List ActiveRange)) (borders : List ℕ) → AreRangesBelow net (length net) ranges →
    Exactly (IsBorderRouter net) borders → (r : AreaRoute) → Any (λ (b : ℕ). IsListedRange ranges p b r) borders ↔ SummarizedRange net p r.at r
all_ranges_are net p ranges borders known are r = (
  λ any.
      let f = any_in (λ (b : ℕ). IsListedRange ranges p b r) borders any in
      let is = (listed f.item ((are f.item).0 f.among)).0 f.holds in
      subst (λ (b : ℕ). SummarizedRange net p b r) (sym is.at) is,
  λ is. any_of (λ (b : ℕ). IsListedRange ranges p b r) borders r.at ((are r.at).1 is.has.border) ((listed r.at is.has.border).1 is),
)
  where
    listed : (b : ℕ) → IsBorderRouter net b → IsListedRange ranges p b r ↔ SummarizedRange net p b r
    listed b border = ranges_are net p b (get_or ranges b []) (known.each b (border_is_router net b border)) r

-- a prefix that is of no active range gets no route of one
pub no_ranges_added : (net : Network) (p : Block) (ranged : List Block) (old : List AreaRoute) → HoldRanges net ranged → (Contains ranged p → ⊥) →
    Adds old old (λ r. SummarizedRange net p r.at r)
no_ranges_added net p ranged old hold none = adds_nothing old (λ (r : AreaRoute). SummarizedRange net p r.at r)
    (λ r is. none (hold p r.at (record { range = is.range; active = range_cost_active net r.at is.range r.asks is.costs; dest = is.dest })))

pub summarized_both : (net : Network) (p : Block) (b : ℕ) (r : AreaRoute) →
    SummarizedFrom net p b r ↔ (SummarizedSubnet net p b r ⊎ SummarizedRange net p b r)
summarized_both net p b r = (there, ⊎_elim (λ s. SummarizedFrom.of_subnet s) (λ s. SummarizedFrom.of_range s))
  where
    there : SummarizedFrom net p b r → SummarizedSubnet net p b r ⊎ SummarizedRange net p b r
    there (SummarizedFrom.of_subnet s) = inl s
    there (SummarizedFrom.of_range s) = inr s

pub summarized_at : (net : Network) (p : Block) (b : ℕ) (r : AreaRoute) → SummarizedFrom net p b r → (r.at ≡ b) × IsBorderRouter net b
summarized_at net p b r it_4 = grind (arith, common_steps)

-- What goes out of the other areas

outside_of : (net : Network) (n : ℕ) (p : Block) (r : AreaRoute) → r.area ≢ n → SummarizedFrom net p r.at r → OutsideSummary net n p r.at r.asks
outside_of net n p r other (SummarizedFrom.of_subnet s) = OutsideSummary.of_subnet
    (record { border = s.border; area = r.area; other = other; costs = s.costs; alone = s.alone })
outside_of net n p r other (SummarizedFrom.of_range s) = OutsideSummary.of_range
    (record { range = s.range; has = s.has; dest = s.dest; other = λ same. other (sym s.area ∙ same); advertised = s.advertised; costs = s.costs })

-- a route that is summarized
record Outgoing (net : Network) (n : ℕ) (p : Block) (b cost : ℕ) : Type 0 where
  pub area : ℕ
  pub other : area ≢ n
  pub from : SummarizedFrom net p b (record { area = area; at = b; asks = cost })

outgoing_of : (net : Network) (n : ℕ) (p : Block) (b cost : ℕ) → OutsideSummary net n p b cost → Outgoing net n p b cost
outgoing_of net n p b cost (OutsideSummary.of_subnet s) =
    record { area = s.area; other = s.other; from = SummarizedFrom.of_subnet (record { at = refl; border = s.border; costs = s.costs; alone = s.alone }) }
outgoing_of net n p b cost (OutsideSummary.of_range s) =
    record {
      area = s.range.area;
      other = s.other;
      from = SummarizedFrom.of_range
          (record { at = refl; range = s.range; has = s.has; dest = s.dest; area = refl; advertised = s.advertised; costs = s.costs });
    }

outside_is : (net : Network) (n : ℕ) (p : Block) (routes : List AreaRoute) → AreSummarized net p routes → (o : Offer) →
    Any (λ (r : AreaRoute). OutsideOf n r o) routes ↔ OutsideSummary net n p o.at o.asks
outside_is net n p routes are o = (
  λ any.
      let f = any_in (λ (r : AreaRoute). OutsideOf n r o) routes any in
      subst (λ (c : ℕ). OutsideSummary net n p o.at c) (sym f.holds.asks)
      (subst (λ (b : ℕ). OutsideSummary net n p b f.item.asks) (sym f.holds.at) (outside_of net n p f.item f.holds.other ((are f.item).0 f.among))),
  λ out.
      let going = outgoing_of net n p o.at o.asks out in
      let r : AreaRoute = record { area = going.area; at = o.at; asks = o.asks } in
      any_of (λ (x : AreaRoute). OutsideOf n x o) routes r ((are r).1 going.from) (record { other = going.other; at = refl; asks = refl }),
)

outgoing_is : (net : Network) (n : ℕ) (routes : List AreaRoute) (o : Offer) (Out : Type 0) → Any (λ (r : AreaRoute). OutsideOf n r o) routes ↔ Out →
    Any (IsOutgoing net n o) routes ↔ (Announces net n o.at × Out)
outgoing_is net n routes o Out out = grind (arith, common_steps, any_in, any_of)

-- into the backbone there goes nothing else
pub backbone_is : (net : Network) (p : Block) (b cost : ℕ) → OutsideSummary net 0 p b cost ↔ BackboneSummary net p b cost
backbone_is net p b cost = (there, back)
  where
    there : OutsideSummary net 0 p b cost → BackboneSummary net p b cost
    there (OutsideSummary.of_subnet s) = BackboneSummary.of_subnet s
    there (OutsideSummary.of_range s) = BackboneSummary.of_range s

    back : BackboneSummary net p b cost → OutsideSummary net 0 p b cost
    back (BackboneSummary.of_subnet s) = OutsideSummary.of_subnet s
    back (BackboneSummary.of_range s) = OutsideSummary.of_range s

-- the routes of other areas than the backbone, as offers
pub backbone_are : (net : Network) (p : Block) (routes given : List AreaRoute) (offers other : List Offer) → AreSummarized net p routes → given ≡ routes →
    Exactly (λ (o : Offer). Any (λ (r : AreaRoute). OutsideOf 0 r o) given) offers → other ≡ offers → AreOffers (BackboneSummary net p) other
backbone_are net p routes given offers other are same listed also =
    exactly_same other (λ (o : Offer). Any (λ (r : AreaRoute). OutsideOf 0 r o) given) (λ (o : Offer). BackboneSummary net p o.at o.asks)
    (subst (Exactly (λ (o : Offer). Any (λ (r : AreaRoute). OutsideOf 0 r o) given)) (sym also) listed)
    (λ o. iff_then (outside_is net 0 p given (subst (AreSummarized net p) (sym same) are) o) (backbone_is net p o.at o.asks))

backbone_summary : (net : Network) (p : Block) (n b cost : ℕ) → n ≡ 0 → OutsideSummary net n p b cost ↔ Summary net p n b cost
backbone_summary net p n b cost zero =
    subst (λ (m : ℕ). OutsideSummary net m p b cost ↔ Summary net p m b cost) (sym zero)
    (λ out. into_backbone ((backbone_is net p b cost).0 out), λ s. (backbone_is net p b cost).1 (of_zero 0 s refl))
  where
    of_zero : (m : ℕ) → Summary net p m b cost → m ≡ 0 → BackboneSummary net p b cost
    of_zero _ (into_backbone s) is = s
    of_zero m (into_area other s) is = absurd (other is)

of_area : (net : Network) (p : Block) (n b cost : ℕ) → n ≢ 0 → Summary net p n b cost → AreaSummary net n p b cost
of_area net p _ b cost apart (into_backbone s) = absurd (apart refl)
of_area net p n b cost apart (into_area _ s) = s

-- The announcements of others

-- a router announces nothing of a prefix that has no intra-area route there and is no active range of it
own_backbone : (net : Network) (p : Block) (b cost : ℕ) → (IsIntraArea net p b → ⊥) → (IsActiveRange net p b → ⊥) → BackboneSummary net p b cost → ⊥
own_backbone net p b cost no_intra no_range (BackboneSummary.of_subnet s) = no_intra (record { area = s.area; cost = cost; costs = s.costs })
own_backbone net p b cost no_intra no_range (BackboneSummary.of_range s) =
    no_range (record { range = s.range; active = range_cost_active net b s.range cost s.costs; dest = s.dest })

area_border : (net : Network) (n : ℕ) (p : Block) (b cost : ℕ) → AreaSummary net n p b cost → IsBorderRouter net b
area_border net n p b cost (AreaSummary.of_subnet _ s) = s.border
area_border net n p b cost (AreaSummary.of_range _ s) = s.has.border
area_border net n p b cost (AreaSummary.of_route _ s) = s.border
area_border net n p b cost (AreaSummary.of_stub border _ _ _ _) = border

inner_listener : (net : Network) (u n : ℕ) → ListensTo net u n → n ≢ 0 → IsBorderRouter net u → ⊥
inner_listener net u _ (backbone _) apart border = apart refl
inner_listener net u n (one_area inner _) apart border = inner border

own_summary : (net : Network) (p : Block) (n u cost : ℕ) → (IsIntraArea net p u → ⊥) → (IsActiveRange net p u → ⊥) → ListensTo net u n →
    Summary net p n u cost → ⊥
own_summary net p _ u cost no_intra no_range listens (into_backbone s) = own_backbone net p u cost no_intra no_range s
own_summary net p n u cost no_intra no_range listens (into_area apart s) = inner_listener net u n listens apart (area_border net n p u cost s)

pub same_arcs : (arc : Arcs) → SameArcs arc arc
same_arcs arc a b c = (λ x. x, λ x. x)

-- where a router announces nothing itself, all announcements are of others
all_of_others : (offer : Offers) (u : ℕ) → ((cost : ℕ) → offer u cost → ⊥) → SameOffers (OfOthers offer u) offer
all_of_others offer u own at asks = (
  λ o. o.offered,
  λ o. record { other = λ same. own asks (subst (λ (b : ℕ). offer b asks) same o); offered = o },
)

-- another router that is reached in an area is in it
reached_inside : (net : Network) (n u at d : ℕ) → LeastCost (Adjacent net (Area n)) u at d → at ≢ u → InArea net at n
reached_inside net n u at d reached apart = start reached.legs reached.walk.leads
  where
    ends : (legs : List Leg) (v : ℕ) → InArea net v n → Walks (Adjacent net (Area n)) v legs at → InArea net at n
    ends [] v inside here = subst (λ (w : ℕ). InArea net w n) here inside
    ends (leg ∷ legs) v inside over = ends legs leg.to (Adjacent-in_area net n v leg.to leg.cost over.0).1 over.1

    start : (legs : List Leg) → Walks (Adjacent net (Area n)) u legs at → InArea net at n
    start [] here = absurd (apart (sym here))
    start (leg ∷ legs) over = ends legs leg.to (Adjacent-in_area net n u leg.to leg.cost over.0).1 over.1

-- so what others announce and what is heard cost the same
heard_costs : (net : Network) (p : Block) (n u : ℕ) → (IsIntraArea net p u → ⊥) → (IsActiveRange net p u → ⊥) → ListensTo net u n →
    (at c : ℕ) → OfferCosts (Adjacent net (Area n)) (OfOthers (Summary net p n) u) u at c ↔ OfferCosts (Adjacent net (Area n)) (IsHeard net p n) u at c
heard_costs net p n u no_intra no_range listens at c = (
  λ costs. record {
    asks = costs.asks;
    walk = costs.walk;
    offered = record { inside = reached_inside net n u at costs.walk costs.reached costs.offered.other; summary = costs.offered.offered };
    reached = costs.reached;
    costs = costs.costs;
  },
  λ costs. record {
    asks = costs.asks;
    walk = costs.walk;
    offered = record {
      other = λ same. own_summary net p n u costs.asks no_intra no_range listens
          (subst (λ (b : ℕ). Summary net p n b costs.asks) same costs.offered.summary);
      offered = costs.offered.summary;
    };
    reached = costs.reached;
    costs = costs.costs;
  },
)

-- two kinds of offers that come at the same costs at u
abbrev CostsAlike : Arcs → Offers → Offers → ℕ → Type 0
CostsAlike arc one other u = (at c : ℕ) → OfferCosts arc one u at c ↔ OfferCosts arc other u at c

-- have the same least cost and the same hops there
best_alike : {arc : Arcs} {one other : Offers} {u cost : ℕ} → CostsAlike arc one other u → BestCost arc one u cost → BestCost arc other u cost
best_alike {cost = cost} same best = record {
  at = best.at;
  attained = (same best.at cost).0 best.attained;
  least = λ at less costs. best.least at less ((same at less).1 costs);
}

hop_alike : {arc : Arcs} {one other : Offers} {u h : ℕ} → CostsAlike arc one other u → BestHop arc one u h → BestHop arc other u h
hop_alike same hop = record { cost = hop.cost; best = best_alike same hop.best; at = hop.at; attained = (same hop.at hop.cost).0 hop.attained; hop = hop.hop }

pub listened_cost : (net : Network) (p : Block) (n u cost : ℕ) → (IsIntraArea net p u → ⊥) → (IsActiveRange net p u → ⊥) → ListensTo net u n →
    BestCost (Adjacent net (Area n)) (OfOthers (Summary net p n) u) u cost ↔ BestCost (Adjacent net (Area n)) (IsHeard net p n) u cost
listened_cost net p n u cost no_intra no_range listens =
    let same = heard_costs net p n u no_intra no_range listens in (best_alike same, best_alike (λ at c. ((same at c).1, (same at c).0)))

pub listened_hop : (net : Network) (p : Block) (n u h : ℕ) → (IsIntraArea net p u → ⊥) → (IsActiveRange net p u → ⊥) → ListensTo net u n →
    BestHop (Adjacent net (Area n)) (OfOthers (Summary net p n) u) u h ↔ BestHop (Adjacent net (Area n)) (IsHeard net p n) u h
listened_hop net p n u h no_intra no_range listens =
    let same = heard_costs net p n u no_intra no_range listens in (hop_alike same, hop_alike (λ at c. ((same at c).1, (same at c).0)))

-- Border routers

pub no_border_cost : (net : Network) (p : Block) (u : ℕ) → ((cost : ℕ) → BorderCost net p u cost → ⊥) →
    (cost : ℕ) → (◌≡◌ {A = Option ℕ} None (Some cost)) ↔ BorderCost net p u cost
no_border_cost net p u none cost = (λ no. absurd (none-some cost no), λ costs. absurd (none cost costs))

-- there is none where nothing is announced into the backbone
pub no_backbone_cost : (net : Network) (p : Block) (u cost : ℕ) (given : List Offer) → AreOffers (BackboneSummary net p) given → length given ≡ 0 →
    BorderCost net p u cost → ⊥
no_backbone_cost net p u cost given are empty costs =
    let best = costs.best in
    let has = (are (record { at = best.at; asks = best.attained.asks })).1 best.attained.offered.offered in
    omega (arith, has.1, empty)

pub border_cost_is : (net : Network) (p : Block) (u : ℕ) (reach : Reach) (given : List Offer) → IsBorderRouter net u → IsReach net 0 u reach →
    AreOffers (BackboneSummary net p) given → (found : Option ℕ) → MatchOption found (NoneTotals reach given) (IsBestTotal reach given) → (cost : ℕ) →
    BorderCost net p u cost ↔ ((found ≡ Some cost) × (IsIntraArea net p u → ⊥) × (IsActiveRange net p u → ⊥))
border_cost_is net p u reach given border is are found best cost =
    let arc : Arcs = Adjacent net (Area 0) in
    let offer : Offers = BackboneSummary net p in
    let listed = best_cost_is arc u reach offer given is.least (lists_from offer given given are refl) found best cost in
    let others : (IsIntraArea net p u → ⊥) → (IsActiveRange net p u → ⊥) → BestCost arc (OfOthers offer u) u cost ↔ BestCost arc offer u cost =
    λ no_intra no_range. best_cost_same (same_arcs arc) (all_of_others offer u (λ c. own_backbone net p u c no_intra no_range)) u cost in (
      λ costs. (listed.1 ((others costs.no_intra costs.no_range).0 costs.best), costs.no_intra, costs.no_range),
      λ is. record { border = border; no_intra = is.1; no_range = is.2; best = (others is.1 is.2).1 (listed.0 is.0) },
    )

-- Into an area other than the backbone

-- routes of border routers are of routers
pub routes_of_routers : (net : Network) (given : AreaRoute → Type 0) (routes : List AreaRoute) → Exactly given routes →
    ((r : AreaRoute) → given r → IsBorderRouter net r.at) → All (λ (r : AreaRoute). r.at < length net) routes
routes_of_routers net given routes are border k d within =
    let r : AreaRoute = get_or routes k d in border_is_router net r.at (border r ((are r).0 (Contains-get_or routes k d within)))

pub heard_in_backbone : (net : Network) (n : ℕ) (p : Block) (routes : List AreaRoute) (none first : List Offer) → n ≡ 0 → AreSummarized net p routes →
    none ≡ [] → Adds none first (λ o. Any (IsOutgoing net n o) routes) → AreOffers (IsHeard net p n) first
heard_in_backbone net n p routes none first zero are empty adds =
    let Outside : Offer → Type 0 = λ o. Any (IsOutgoing net n o) routes in
    let Heard : Offer → Type 0 = λ o. IsHeard net p n o.at o.asks in
    exactly_added none first Heard empty (adds_same none first Outside Heard adds (λ o. (
      λ any.
          let both = (outgoing_is net n routes o (OutsideSummary net n p o.at o.asks) (outside_is net n p routes are o)).0 any in
          record { inside = both.0.inside; summary = (backbone_summary net p n o.at o.asks zero).0 both.1 },
      λ heard. (outgoing_is net n routes o (OutsideSummary net n p o.at o.asks) (outside_is net n p routes are o)).1 (
        record { inside = heard.inside; summaries = λ apart. absurd (apart zero) },
        (backbone_summary net p n o.at o.asks zero).1 heard.summary,
      ),
    )))

-- what the border routers of the area give one by one is all that is reached
pub reached_of_borders : (net : Network) (n : ℕ) (p : Block) (borders given : List ℕ) (old new : List Offer) → Exactly (IsBorderIn net n) borders →
    given ≡ borders → Adds old new (λ o. Any (λ (b : ℕ). (o.at ≡ b) × IsPassedOn net n p o) given) → Adds old new (IsPassedOn net n p)
reached_of_borders net n p borders given old new are same adds =
    adds_same old new (λ o. Any (λ (b : ℕ). (o.at ≡ b) × IsPassedOn net n p o) given) (IsPassedOn net n p) adds (λ o. (
      λ any. (any_in (λ (b : ℕ). (o.at ≡ b) × IsPassedOn net n p o) given any).holds.1,
      λ is. any_of (λ (b : ℕ). (o.at ≡ b) × IsPassedOn net n p o) given o.at
          ((subst (Exactly (IsBorderIn net n)) (sym same) are o.at).1 (record { inside = is.inside; border = is.costs.border })) (refl, is),
    ))

pub heard_in_area : (net : Network) (n : ℕ) (p : Block) (routes : List AreaRoute) (none first second third : List Offer) → n ≢ 0 →
    AreSummarized net p routes → none ≡ [] → Adds none first (λ o. Any (IsOutgoing net n o) routes) →
    Adds first second (IsPassedOn net n p) → Adds second third (HasDefault net n p) → AreOffers (IsHeard net p n) third
heard_in_area net n p routes none first second third apart are_outside empty one two three =
    let Outside : Offer → Type 0 = λ o. Any (IsOutgoing net n o) routes in
    let Reached : Offer → Type 0 = IsPassedOn net n p in
    let Both : Offer → Type 0 = λ o. Outside o ⊎ Reached o in
    let All_of : Offer → Type 0 = λ o. Both o ⊎ HasDefault net n p o in
    exactly_added none third (λ (o : Offer). IsHeard net p n o.at o.asks) empty
    (adds_same none third All_of (λ (o : Offer). IsHeard net p n o.at o.asks)
    (adds_both none second third Both (HasDefault net n p) All_of
    (adds_both none first second Outside Reached Both one two (λ o. (λ x. x, λ x. x))) three (λ o. (λ x. x, λ x. x)))
    (λ o. (there o, λ heard. back o heard.inside (of_area net p n o.at o.asks apart heard.summary))))
  where
    outside_out : (o : Offer) → Any (IsOutgoing net n o) routes ↔ (Announces net n o.at × OutsideSummary net n p o.at o.asks)
    outside_out o = outgoing_is net n routes o (OutsideSummary net n p o.at o.asks) (outside_is net n p routes are_outside o)

    from_outside : (o : Offer) → (IsTotallyStubby net o.at n → ⊥) → OutsideSummary net n p o.at o.asks → AreaSummary net n p o.at o.asks
    from_outside o allowed (OutsideSummary.of_subnet s) = AreaSummary.of_subnet allowed s
    from_outside o allowed (OutsideSummary.of_range s) = AreaSummary.of_range allowed s

    there : (o : Offer) → (Any (IsOutgoing net n o) routes ⊎ IsPassedOn net n p o) ⊎ HasDefault net n p o → IsHeard net p n o.at o.asks
    there o (inl (inl any)) = let both = (outside_out o).0 any in
        record { inside = both.0.inside; summary = into_area apart (from_outside o (both.0.summaries apart) both.1) }
    there o (inl (inr reached)) =
        record { inside = reached.inside; summary = into_area apart (AreaSummary.of_route reached.allowed reached.costs) }
    there o (inr has) = record {
      inside = has.default.inside;
      summary = into_area apart (AreaSummary.of_stub has.default.border has.all has.default.stub has.default.has has.default.costs);
    }

    back : (o : Offer) → InArea net o.at n → AreaSummary net n p o.at o.asks →
        (Any (IsOutgoing net n o) routes ⊎ IsPassedOn net n p o) ⊎ HasDefault net n p o
    back o inside (AreaSummary.of_subnet allowed s) = inl
        (inl ((outside_out o).1 (record { inside = inside; summaries = λ _. allowed }, OutsideSummary.of_subnet s)))
    back o inside (AreaSummary.of_range allowed s) = inl
        (inl ((outside_out o).1 (record { inside = inside; summaries = λ _. allowed }, OutsideSummary.of_range s)))
    back o inside (AreaSummary.of_route allowed s) = inl (inr (record { inside = inside; allowed = allowed; costs = s }))
    back o inside (AreaSummary.of_stub border all s has is) = inr
        (record { all = all; default = record { at = refl; inside = inside; border = border; stub = s; has = has; costs = is } })

-- Stub areas

pub router_default_is : (net : Network) (n b : ℕ) (config : Configuration) (given : List Stub) → InArea net b n → IsBorderRouter net b →
    HasConfiguration net b config → given ≡ config.stubs → (o : Offer) → Any (IsDefault n b o) given ↔ RouterDefault net n b o
router_default_is net n b config given inside border router are o = (
  λ any.
      let f = any_in (IsDefault n b o) given any in
      record {
        at = f.holds.at;
        inside = inside;
        border = border;
        stub = f.item;
        has = record { config = config; router = router; among = subst (λ (l : List Stub). Contains l f.item) are f.among; area = f.holds.area };
        costs = sym f.holds.costs;
      },
  λ is. any_of (IsDefault n b o) given is.stub
      (subst (λ (l : List Stub). Contains l is.stub) (sym are)
      (subst (λ (c : Configuration). Contains c.stubs is.stub) (HasConfiguration-unique net b is.has.config config is.has.router router) is.has.among))
      (record { area = is.has.area; at = is.at; costs = sym is.costs }),
)

pub defaults_are : (net : Network) (n : ℕ) (p : Block) (borders given : List ℕ) (old new : List Offer) → Exactly (IsBorderIn net n) borders →
    given ≡ borders → p ≡ default_prefix → Adds old new (λ o. Any (λ (b : ℕ). RouterDefault net n b o) given) → Adds old new (HasDefault net n p)
defaults_are net n p borders given old new are same all adds =
    adds_same old new (λ o. Any (λ (b : ℕ). RouterDefault net n b o) given) (HasDefault net n p) adds (λ o. (
      λ any.
          let f = any_in (λ (b : ℕ). RouterDefault net n b o) given any in
          record { all = all; default = subst (λ (b : ℕ). RouterDefault net n b o) (sym f.holds.at) f.holds },
      λ has. any_of (λ (b : ℕ). RouterDefault net n b o) given o.at
          ((subst (Exactly (IsBorderIn net n)) (sym same) are o.at).1 (record { inside = has.default.inside; border = has.default.border })) has.default,
    ))
