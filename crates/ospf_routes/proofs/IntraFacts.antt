-- What the interfaces of each area offer of a prefix, and its intra-area costs.
use Rattle.std.proofs.Common.{◌≡◌, ℕ, ◌↔◌, ⊎_elim, get_or, List, [], ◌∷◌, ◌++◌, Option, Some, MatchOption, refl, sym, ap, subst}
use Rattle.std.proofs.Common.{arith, ◌+◌, ◌<◌, ◌^◌, length, take}
use Rattle.std.specs.List.{Contains, Any, All}
use Rattle.std.proofs.lemmas.List.{get_or_default}
use Rattle.std.proofs.lemmas.List.Elements.{All-weaker, All-contains, Contains-get_or, Contains-push_cases}
use Rattle.net_addr.specs.Addresses.{Block}
use Rattle.net_model.proofs.NetworkFacts.{Adjacent-in_area}
use Rattle.net_model.specs.Network.{Network, Adjacent, Connected, InArea}
use Rattle.net_model.specs.Refusals.{IsNetwork}
use Rattle.net_model.specs.declared.zone.Zone.TheVariants.{Area}
use Rattle.walk_core.specs.Offers.{BestCost}
use Rattle.walk_core.specs.Reach.{Reach}
use Rattle.walk_core.specs.Walks.{Leg, Walks}
use Rattle.walk_core.specs.BestOffers.{AreInRange, NoneTotals, IsBestTotal}
use Rattle.walk_core.specs.declared.offers.Offer.{Offer}
use Rattle.igp_theory.specs.Ospf.{OffersSubnet, IntraAreaCost, IsIntraArea}
use Rattle.ospf_routes.specs.steps.Areas.{AreAreas, HasArea, IsAreaAt, IsReach}
use Rattle.ospf_routes.specs.declared.areas.AreaWalks.{AreaWalks}
use Rattle.ospf_routes.specs.steps.Domain.{OspfDomain}
use Rattle.ospf_routes.specs.steps.Destinations.{AddsArea, AddsPart, HasAreaPart, IsDestination, IsDestinationIn}
use Rattle.ospf_routes.specs.steps.Destinations.{IsSomePart, IsPartAt, IsPartFor, IsPartIn, IsPartOf}
use Rattle.ospf_routes.specs.Lists.{Exactly}
use Rattle.ospf_routes.specs.steps.Offered.{AreOffers, InsideOf}
use Rattle.ospf_routes.specs.declared.intra_area.AreaOffers.{AreaOffers}
use Rattle.ospf_routes.specs.declared.intra_area.Destination.{Destination}
use Rattle.ospf_routes.specs.declared.area_route.AreaRoute.{AreaRoute}
use Rattle.ospf_routes.proofs.CostBounds.{in_range, lists_from, subnet_is_small}
use Rattle.route_tables.proofs.BestRoutes.{best_cost_is}
use Rattle.net_addr.proofs.SomeElement.{any_of, any_in, one_more}
use Rattle.route_tables.proofs.ListFacts.{exactly_same}

-- The offers of an area

-- what is offered in an area
pub part_offers : (net : Network) (p : Block) (routes given : List AreaRoute) (part : AreaOffers) →
    Exactly (λ (r : AreaRoute). OffersSubnet net r.area p r.at r.asks) routes → given ≡ routes → IsPartOf given part →
    AreOffers (OffersSubnet net part.area p) part.offers.items
part_offers net p routes given part are same is =
    exactly_same part.offers.items (λ (o : Offer). Any (λ (r : AreaRoute). InsideOf part.area r o) given)
    (λ (o : Offer). OffersSubnet net part.area p o.at o.asks) is
    (λ o. (
      λ any.
          let f = any_in (λ (r : AreaRoute). InsideOf part.area r o) given any in
          let offers : OffersSubnet net f.item.area p f.item.at f.item.asks = (are f.item).0 (subst (λ (l : List AreaRoute). Contains l f.item) same f.among)
          in
          moved f.item o f.holds offers,
      λ offers.
          let r : AreaRoute = record { area = part.area; at = o.at; asks = o.asks } in
          any_of (λ (x : AreaRoute). InsideOf part.area x o) given r (subst (λ (l : List AreaRoute). Contains l r) (sym same) ((are r).1 offers))
          (record { area = refl; at = refl; asks = refl }),
    ))
  where
    moved : (r : AreaRoute) (o : Offer) → InsideOf part.area r o → OffersSubnet net r.area p r.at r.asks → OffersSubnet net part.area p o.at o.asks
    moved r o inside offers =
        subst (λ (c : ℕ). OffersSubnet net part.area p o.at c) (sym inside.asks)
        (subst (λ (w : ℕ). OffersSubnet net part.area p w r.asks) (sym inside.at)
        (subst (λ (n : ℕ). OffersSubnet net n p r.at r.asks) inside.area offers))

pub destination_is : (domain : OspfDomain) (routes given : List AreaRoute) (d : Destination) → AreAreas domain.net domain.areas →
    Exactly (λ (u : ℕ). Connected domain.net u d.dest) d.homes.items →
    Exactly (λ (r : AreaRoute). OffersSubnet domain.net r.area d.dest r.at r.asks) routes → given ≡ routes →
    All (IsPartIn domain.areas given) d.parts.items →
    ((n : ℕ) (o : Offer) → HasArea domain.areas n → Any (λ (r : AreaRoute). InsideOf n r o) given → HasAreaPart d.parts.items n) → IsDestinationIn domain d
destination_is domain routes given d are homes exact same parts every = record {
  is = record { homes = homes; exact = offers; every = offered };
  placed = All-weaker (IsPartIn domain.areas given) (λ (part : AreaOffers). IsAreaAt domain.areas part.area part.zone) (λ part is. is.at) d.parts.items parts;
}
  where
    offers : All (λ (part : AreaOffers). AreOffers (OffersSubnet domain.net part.area d.dest) part.offers.items) d.parts.items
    offers = All-weaker (IsPartIn domain.areas given) (λ (part : AreaOffers). AreOffers (OffersSubnet domain.net part.area d.dest) part.offers.items)
        (λ part is. part_offers domain.net d.dest routes given part exact same is.offers) d.parts.items parts

    offered : (n w cost : ℕ) → OffersSubnet domain.net n d.dest w cost → HasAreaPart d.parts.items n
    offered n w cost offers =
        let r : AreaRoute = record { area = n; at = w; asks = cost } in
        let among : Contains given r = subst (λ (l : List AreaRoute). Contains l r) (sym same) ((exact r).1 offers) in
        let o : Offer = record { at = w; asks = cost } in
        every n o (are.every w n (record { interface = offers.interface; up = offers.up; area = offers.area }))
        (any_of (λ (x : AreaRoute). InsideOf n x o) given r among (record { area = refl; at = refl; asks = refl }))

-- the parts of the areas of the routes before place k
pub record PartsSoFar (routes : List AreaRoute) (areas : List AreaWalks) (k : ℕ) (parts : List AreaOffers) : Type 0 where
  pub each : All (IsPartIn areas routes) parts
  pub every : (r : AreaRoute) → Contains (take k routes) r → HasArea areas r.area → HasAreaPart parts r.area

pub parts_more : (routes : List AreaRoute) (areas : List AreaWalks) (k : ℕ) (d : AreaRoute) (old new : List AreaOffers) →
    PartsSoFar routes areas k old → k < length routes → AddsArea areas routes (get_or routes k d).area old new →
    PartsSoFar routes areas (k + 1) new
parts_more routes areas k d old new before within adds =
    let r : AreaRoute = get_or routes k d in
    let one : take k routes ++ r ∷ [] ≡ take (k + 1) routes = one_more routes k r within (get_or_default routes k d r within) in
    record {
      each = adds.each before.each;
      every = λ other among has. ⊎_elim
          (λ earlier. adds.kept other.area (before.every other earlier has))
          (λ same.
          let number : r.area ≡ other.area = ap (λ (x : AreaRoute). x.area) same in
          subst (λ (n : ℕ). HasAreaPart new n) number (adds.added (subst (λ (n : ℕ). HasArea areas n) (sym number) has)))
          (Contains-push_cases (take k routes) r other (subst (λ (l : List AreaRoute). Contains l other) (sym one) among));
    }

-- all areas with routes have parts, once all routes have been looked at
pub parts_of_all : (routes : List AreaRoute) (areas : List AreaWalks) (k : ℕ) (parts : List AreaOffers) →
    PartsSoFar routes areas k parts → take k routes ≡ routes →
    (n : ℕ) (o : Offer) → HasArea areas n → Any (λ (r : AreaRoute). InsideOf n r o) routes → HasAreaPart parts n
parts_of_all routes areas k parts so_far all n o has any =
    let found = any_in (λ (r : AreaRoute). InsideOf n r o) routes any in
    subst (λ (m : ℕ). HasAreaPart parts m) found.holds.area
    (so_far.every found.item (subst (λ (l : List AreaRoute). Contains l found.item) (sym all) found.among)
    (subst (λ (m : ℕ). HasArea areas m) (sym found.holds.area) has))

-- the part of an area at its place
pub part_added : (areas : List AreaWalks) (routes : List AreaRoute) (n zone : ℕ) (old new : List AreaOffers) →
    IsAreaAt areas n zone → AddsPart (IsPartAt routes n zone) old new → AddsArea areas routes n old new
part_added areas routes n zone old new placed adds = record {
  each = λ all j d below. ⊎_elim
      (λ among. All-contains (IsPartIn areas routes) old (get_or new j d) all among)
      (λ at. record {
        offers = at.offers;
        at = subst (IsAreaAt areas (get_or new j d).area) (sym at.zone_is) (subst (λ (m : ℕ). IsAreaAt areas m zone) (sym at.area) placed);
      })
      (adds.each (get_or new j d) (Contains-get_or new j d below));
  kept = λ m has. record { part = has.part; among = adds.kept has.part has.among; area = has.area };
  added = λ _.
      let part = any_in (IsPartAt routes n zone) new adds.added in
      record { part = part.item; among = part.among; area = part.holds.area };
}

-- Intra-area costs

pub no_intra_anywhere : (net : Network) (d : Destination) (given : List AreaOffers) (u : ℕ) → IsDestination net d → given ≡ d.parts.items →
    All (λ (part : AreaOffers). (c : ℕ) → IntraAreaCost net part.area d.dest u c → ⊥) given → IsIntraArea net d.dest u → ⊥
no_intra_anywhere net d given u is same none intra =
    let best = intra.costs.best in
    let has = is.every intra.area best.at best.attained.asks best.attained.offered in
    let among : Contains given has.part = subst (λ (l : List AreaOffers). Contains l has.part) (sym same) has.among in
    All-contains (λ (part : AreaOffers). (c : ℕ) → IntraAreaCost net part.area d.dest u c → ⊥) given has.part none among intra.cost
    (subst (λ (n : ℕ). IntraAreaCost net n d.dest u intra.cost) (sym has.area) intra.costs)

pub no_intra_given : (net : Network) (d : Destination) (given : List AreaOffers) (n u : ℕ) → IsDestination net d → given ≡ d.parts.items →
    (HasAreaPart given n → ⊥) → (cost : ℕ) → IntraAreaCost net n d.dest u cost → ⊥
no_intra_given net d given n u is same none cost costs =
    let best = costs.best in
    none (subst (λ (l : List AreaOffers). HasAreaPart l n) (sym same) (is.every n best.at best.attained.asks best.attained.offered))

-- a part of a destination
pub part_for : (domain : OspfDomain) (d : Destination) (part : AreaOffers) → IsDestinationIn domain d → Contains d.parts.items part →
    IsPartFor domain d.dest part
part_for domain d part is among = record {
  offers = All-contains (λ (x : AreaOffers). AreOffers (OffersSubnet domain.net x.area d.dest) x.offers.items) d.parts.items part is.is.exact among;
  at = All-contains (λ (x : AreaOffers). IsAreaAt domain.areas x.area x.zone) d.parts.items part is.placed among;
}

pub some_part : {domain : OspfDomain} {p : Block} {part : AreaOffers} → IsPartFor domain p part → IsSomePart domain part
some_part {domain} {p} {part} is = (p, is)

-- read at its place
pub part_at : (domain : OspfDomain) (d : Destination) (given : List AreaOffers) (i : ℕ) (part : AreaOffers) →
    IsDestinationIn domain d → given ≡ d.parts.items → i < length given → part ≡ get_or given i part → IsPartFor domain d.dest part
part_at domain d given i part is same within here =
    part_for domain d part is (subst (λ (l : List AreaOffers). Contains l part) same (i, within, sym here))

-- what a part offers is in range over the walks in its area
pub part_in_range : (domain : OspfDomain) (p : Block) (part : AreaOffers) (u : ℕ) (reach : Reach) → IsNetwork domain.net →
    IsPartFor domain p part → IsReach domain.net part.area u reach → AreInRange reach part.offers.items
part_in_range domain p part u reach network is reach_is =
    in_range reach (OffersSubnet domain.net part.area p) part.offers.items part.offers.items reach_is.near is.offers refl
    (λ at asks offers. let small : asks < 2 ^ 24 = subnet_is_small domain.net part.area p at asks network offers in omega arith)

-- a router that reaches an offer of an area is in the area
pub reaches_inside : (net : Network) (n : ℕ) (p : Block) (u cost : ℕ) → BestCost (Adjacent net (Area n)) (OffersSubnet net n p) u cost → InArea net u n
reaches_inside net n p u cost best = from best.attained.reached.legs best.attained.reached.walk.leads
  where
    from : (legs : List Leg) → Walks (Adjacent net (Area n)) u legs best.at → InArea net u n
    from [] here =
        let offered = best.attained.offered in
        subst (λ (w : ℕ). InArea net w n) (sym here) (record { interface = offered.interface; up = offered.up; area = offered.area })
    from (leg ∷ legs) over = (Adjacent-in_area net n u leg.to leg.cost over.0).0

pub intra_cost_is : (net : Network) (n : ℕ) (p : Block) (u : ℕ) (reach : Reach) (offers given : List Offer) → IsReach net n u reach →
    AreOffers (OffersSubnet net n p) offers → given ≡ offers →
    (found : Option ℕ) → MatchOption found (NoneTotals reach given) (IsBestTotal reach given) → (cost : ℕ) →
    (found ≡ Some cost) ↔ IntraAreaCost net n p u cost
intra_cost_is net n p u reach offers given reach_is are same found best cost =
    let is = best_cost_is (Adjacent net (Area n)) u reach (OffersSubnet net n p) given reach_is.least
    (lists_from (OffersSubnet net n p) offers given are same) found best cost in
    (λ e. record { inside = reaches_inside net n p u cost (is.0 e); best = is.0 e }, λ costs. is.1 costs.best)
