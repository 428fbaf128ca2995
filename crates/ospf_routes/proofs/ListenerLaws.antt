-- What decides the routes of the routers that listen to an area, border routers among them.
use Rattle.std.proofs.lemmas.Grind.{common_steps}
use Rattle.std.proofs.Common.{◌≡◌, ◌≢◌, ℕ, ◌<◌, ◌⊎◌, inl, inr, ⊎_elim, List, length, Option, Some, refl, subst, sym, arith}
use Rattle.std.specs.List.{All, Contains}
use Rattle.std.proofs.lemmas.List.Elements.{All-contains}
use Rattle.net_addr.specs.Addresses.{Block}
use Rattle.net_model.specs.Network.{Network, Connected, InArea}
use Rattle.walk_core.specs.Reach.{Reach}
use Rattle.walk_core.specs.BestOffers.{AreInRange}
use Rattle.walk_core.specs.declared.offers.Offer.{Offer}
use Rattle.route_core.specs.declared.entry.Entry.{Entry}
use Rattle.igp_theory.specs.Ospf.{IsActiveRange, IsIntraArea, ListensTo, OspfEntry, intra_area}
use Rattle.route_tables.specs.Lanes.{DecidesRoute}
use Rattle.route_tables.specs.declared.lane.Decision.{Decision}
use Rattle.route_tables.specs.declared.lane.Decision.TheVariants.{Nothing, NothingBut, One, Two, Unknown}
use Rattle.ospf_routes.specs.Lists.{Exactly}
use Rattle.ospf_routes.specs.steps.AreaReach.{area_reach}
use Rattle.ospf_routes.specs.steps.Areas.{AreAreas, AreListeners, IsAreaAt, IsListenedPlace, IsListenerAt, IsReach}
use Rattle.ospf_routes.specs.steps.Destinations.{IsDestination, IsDestinationIn}
use Rattle.ospf_routes.specs.steps.Heard.{AreHeardAt}
use Rattle.ospf_routes.specs.steps.Lanes.{Excepts, IsListening, IsNothing, IsOfFew, IsOfHeard, LaneOf, LeadsLane}
use Rattle.ospf_routes.specs.steps.Members.{IsBorderIn}
use Rattle.ospf_routes.specs.declared.intra_area.AreaOffers.{AreaOffers}
use Rattle.ospf_routes.specs.declared.intra_area.Destination.{Destination}
use Rattle.ospf_routes.proofs.IntraFacts.{part_for, part_in_range}
use Rattle.ospf_routes.proofs.LaneLaws.{IsOutside, free_leads, leads_by, nothing_decides, only_inside, outside_leads, reach_at}
use Rattle.ospf_routes.proofs.RouteFacts.{area_route_is}
use Rattle.ospf_routes.proofs.ZoneRoutes.{only_follows, only_none}

-- The router

-- the place of the area that it listens to
pub listening_place : (l : LaneOf) (u : ℕ) → AreListeners l.domain.net l.domain.areas (length l.domain.net) l.listens →
    u < length l.domain.net →
    IsListening l.listens l.zone u → IsListenedPlace l.domain.net l.domain.areas u l.zone
listening_place l u are below listening = subst (IsListenerAt l.domain.net l.domain.areas u) listening (are.each u below)

-- in another area it is a border router
not_inside : (net : Network) (u n m : ℕ) → ListensTo net u n → m ≢ n → (IsBorderIn net m u → ⊥) → InArea net u m → ⊥
not_inside net u n m it_4 other none inside = grind (arith, common_steps, only_inside)

-- Prefixes of one other area at most

-- what is offered in another area alone gives it no intra-area route, unless it is a border router there
no_intra_of_part : (net : Network) (d : Destination) (part : AreaOffers) (u n : ℕ) → IsDestination net d →
    length d.parts.items ≡ 1 →
    Contains d.parts.items part → ListensTo net u n → part.area ≢ n → (IsBorderIn net part.area u → ⊥) →
    IsIntraArea net d.dest u → ⊥
no_intra_of_part net d part u n is one among listens other none =
    only_none net d part u is one among (λ cost costs. not_inside net u n part.area listens other none costs.inside)

-- nor does what no area offers
no_intra_of_none : (net : Network) (d : Destination) (u : ℕ) → IsDestination net d → length d.parts.items ≡ 0 →
    IsIntraArea net d.dest u → ⊥
no_intra_of_none net d u is empty intra =
    let best = intra.costs.best in
    let has = is.every intra.area best.at best.attained.asks best.attained.offered in
    omega (arith, has.among.1, empty)

-- What is excepted

-- one or two offers decide where the router isn't excepted
few_decide_others : (l : LaneOf) (u : ℕ) (p : Block) (offers : List Offer) (d : Decision) → IsOfFew offers d →
    ((Excepts d u → ⊥) → LeadsLane l u p offers) → DecidesRoute u (OspfEntry l.domain.net u p) (LeadsLane l u p) d
few_decide_others l u p offers Nothing few lead = absurd few
few_decide_others l u p offers (NothingBut one other) few lead = absurd few
few_decide_others l u p offers (One at) (asks, same) lead = λ other.
    free_leads l u p (record { at = at; asks = asks }) (subst (LeadsLane l u p) same (lead other))
few_decide_others l u p offers (Two one two) same lead = λ first second. subst (LeadsLane l u p) same (lead (⊎_elim first second))
few_decide_others l u p offers Unknown few lead = tt

-- and so does that there is nothing
nothing_decides_others : (l : LaneOf) (u : ℕ) (p : Block) (d : Decision) → IsNothing d →
    ((Excepts d u → ⊥) → (e : Entry) → OspfEntry l.domain.net u p e → ⊥) →
    DecidesRoute u (OspfEntry l.domain.net u p) (LeadsLane l u p) d
nothing_decides_others l u p Nothing is none = none (λ no. no)
nothing_decides_others l u p (NothingBut one other) is none = λ first second. none (⊎_elim first second)
nothing_decides_others l u p (One at) is none = absurd is
nothing_decides_others l u p (Two one two) is none = absurd is
nothing_decides_others l u p Unknown is none = tt

-- where it is made unknown no less is so
few_or_unknown : (offers : List Offer) (d result : Decision) → IsOfFew offers d → (result ≡ d) ⊎ (result ≡ Unknown) →
    IsOfFew offers result
few_or_unknown offers d result few it_4 = grind (arith, common_steps)

heard_or_unknown : (heard : List Offer) (d result : Decision) → IsOfHeard heard d → (result ≡ d) ⊎ (result ≡ Unknown) →
    IsOfHeard heard result
heard_or_unknown heard d result is it_4 = grind (arith, common_steps)

-- Decisions

-- what is announced into the area decides at a router that has no routes of its own unless it is excepted
pub heard_decides : (l : LaneOf) (u : ℕ) (d : Destination) (heard : List Offer) (given decision : Decision) →
    AreAreas l.domain.net l.domain.areas →
    AreListeners l.domain.net l.domain.areas (length l.domain.net) l.listens → AreHeardAt l.domain d.dest l.zone heard →
    ((u : ℕ) → IsActiveRange l.domain.net d.dest u → ⊥) → u < length l.domain.net → IsListening l.listens l.zone u →
    IsOfHeard heard given →
    (decision ≡ given) ⊎ (decision ≡ Unknown) →
    (Connected l.domain.net u d.dest → Excepts decision u) → ((Excepts decision u → ⊥) → IsIntraArea l.domain.net d.dest u → ⊥) →
    DecidesRoute u (OspfEntry l.domain.net u d.dest) (LeadsLane l u d.dest) decision
heard_decides l u d heard given decision are listeners is_heard no_range below listening is same home no_intra =
    let place = listening_place l u listeners below listening in
    let outside : (Excepts decision u → ⊥) → IsOutside l u d.dest heard =
    λ not. record {
      below = below;
      place = place;
      no_range = no_range u;
      no_intra = no_intra not;
      heard = is_heard place.area place.at;
    } in
    elim (heard_or_unknown heard given decision is same) [
      | inl (empty, nothing) ↦
          nothing_decides_others l u d.dest decision nothing
          (λ not. nothing_decides l u d.dest heard heard are (outside not) refl empty)
      | inr few ↦
          few_decide_others l u d.dest heard decision few
          (λ not. outside_leads l u d.dest heard heard are (outside not) refl (λ is. not (home is)))
    ]

-- what the area alone offers decides at every router
pub offers_decide : (l : LaneOf) (u : ℕ) (d : Destination) (part : AreaOffers) (given : List Offer) (few decision : Decision) →
    AreAreas l.domain.net l.domain.areas → IsDestinationIn l.domain d → u < length l.domain.net → length d.parts.items ≡ 1 →
    Contains d.parts.items part → IsAreaAt l.domain.areas part.area l.zone → given ≡ part.offers.items → IsOfFew given few →
    (decision ≡ few) ⊎ (decision ≡ Unknown) →
    (Connected l.domain.net u d.dest → Excepts decision u) →
    DecidesRoute u (OspfEntry l.domain.net u d.dest) (LeadsLane l u d.dest) decision
offers_decide l u d part given few decision are is below one among at same is_few either home =
    let net : Network = l.domain.net in
    let reach : Reach = area_reach l.domain.areas u l.zone in
    let part_is = part_for l.domain d part is among in
    let walks : IsReach net part.area u reach = reach_at net l.domain.areas part.area u l.zone are at below in
    few_decide_others l u d.dest given decision (few_or_unknown given few decision is_few either) (λ not.
    leads_by l u d.dest given at.within
    (subst (AreInRange reach) (sym same) (part_in_range l.domain d.dest part u reach are.network part_is walks))
    (λ hops best.
    let route = only_follows net d part u (Some hops) is.is one among
    (area_route_is net part.area d.dest u reach part.offers.items given walks part_is.offers same (length net) refl (Some hops)
    best) in
    intra_area (λ is. not (home is)) route.is route.hops_are))

-- Homes and owners

-- a home that listens is excepted
pub home_excepted : (net : Network) (d : Destination) (homes : List ℕ) (listens : List (Option ℕ)) (zone u : ℕ)
    (decision : Decision) →
    IsDestination net d → homes ≡ d.homes.items → All (λ (v : ℕ). IsListening listens zone v → Excepts decision v) homes →
    IsListening listens zone u →
    Connected net u d.dest → Excepts decision u
home_excepted net d homes listens zone u decision is same excepted listening connected =
    let Holds : ℕ → Type 0 = λ v. IsListening listens zone v → Excepts decision v in
    All-contains Holds d.homes.items u (subst (All Holds) same excepted) ((is.homes u).1 connected) listening

-- so a border router of the one area that offers the prefix is, where all of these are
pub part_owned : (net : Network) (d : Destination) (part : AreaOffers) (u n m : ℕ) (owners : List ℕ) (decision : Decision) →
    IsDestination net d →
    length d.parts.items ≡ 1 → Contains d.parts.items part → ListensTo net u n → part.area ≢ n → m ≡ part.area →
    Exactly (IsBorderIn net m) owners → All (Excepts decision) owners → (Excepts decision u → ⊥) → IsIntraArea net d.dest u → ⊥
part_owned net d part u n m owners decision is one among listens other same exact excepted not =
    no_intra_of_part net d part u n is one among listens other
    (λ border. not (All-contains (Excepts decision) owners u excepted
    ((exact u).1 (subst (λ (k : ℕ). IsBorderIn net k u) (sym same) border))))

pub none_offered : (net : Network) (d : Destination) (given : List AreaOffers) (u : ℕ) → IsDestination net d →
    given ≡ d.parts.items → length given ≡ 0 →
    IsIntraArea net d.dest u → ⊥
none_offered net d given u is same empty =
    no_intra_of_none net d u is (subst (λ (parts : List AreaOffers). length parts ≡ 0) same empty)
