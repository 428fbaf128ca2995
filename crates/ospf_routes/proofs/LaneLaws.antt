-- What decides the routes of the routers that are in one area alone.
use Rattle.std.proofs.lemmas.Grind.{common_steps}
use Rattle.std.proofs.Common.{◌≡◌, ℕ, zero, suc, ◌+◌, ◌^◌, ◌<◌, ◌≤◌, ◌⊎◌, ⊎_elim, List, [], ◌∷◌, length, get_or, Option, Some, None}
use Rattle.std.proofs.Common.{refl, sym, subst, arith}
use Rattle.std.specs.List.{All, Any, Contains}
use Rattle.std.proofs.lemmas.Option.{none-some, same_Some, slice_get_within}
use Rattle.std.proofs.lemmas.List.Elements.{Contains-get_or, Contains-push}
use Rattle.net_addr.specs.Addresses.{Block}
use Rattle.net_model.specs.Network.{Network, Connected, InArea, IsBorderRouter}
use Rattle.walk_core.specs.Reach.{Reach, HasHop, distance_of}
use Rattle.walk_core.specs.BestOffers.{AreInRange, FitsTotal, total_with}
use Rattle.walk_core.specs.declared.offers.Offer.{Offer}
use Rattle.route_core.specs.declared.entry.Entry.{Entry}
use Rattle.route_core.specs.declared.entry.Entry.TheVariants.{Via}
use Rattle.igp_theory.specs.Ospf.{IntraAreaCost, IsActiveRange, IsIntraArea, ListensTo, one_area, OspfEntry, intra_area}
use Rattle.igp_theory.proofs.TableLaws.{listens_to_one_area}
use Rattle.route_tables.specs.BestRoutes.{AreBestHops}
use Rattle.route_tables.specs.Lanes.{DecidesRoute}
use Rattle.route_tables.specs.declared.lane.Decision.{Decision}
use Rattle.route_tables.specs.declared.lane.Decision.TheVariants.{Nothing, NothingBut, One, Two, Unknown}
use Rattle.route_tables.specs.declared.route.Route.TheVariants.{Through, Towards}
use Rattle.route_tables.proofs.BestRoutes.{best_route_makes, route_by_hops}
use Rattle.route_tables.proofs.ListFacts.{any_in_one, any_in_two, the_one}
use Rattle.ospf_routes.specs.steps.AreaReach.{area_reach}
use Rattle.ospf_routes.specs.steps.Areas.{AreAreas, AreListeners, IsAreaAt, IsListenedPlace, IsListenerAt, IsReach}
use Rattle.ospf_routes.specs.steps.Destinations.{HasAreaPart, IsDestination, IsDestinationIn}
use Rattle.ospf_routes.specs.steps.Heard.{AreHeardAt, AreHeardLike}
use Rattle.ospf_routes.specs.steps.Lanes.{IsInner, IsOfFew, LaneOf, LeadsLane}
use Rattle.ospf_routes.specs.declared.areas.AreaWalks.{AreaWalks}
use Rattle.ospf_routes.specs.declared.intra_area.AreaOffers.{AreaOffers}
use Rattle.ospf_routes.specs.declared.intra_area.Destination.{Destination}
use Rattle.ospf_routes.proofs.AreaFacts.{area_reach_read, number_at, reach_is, reach_within}
use Rattle.ospf_routes.proofs.IntraFacts.{no_intra_given, part_for, part_in_range}
use Rattle.ospf_routes.proofs.EntryFacts.{heard_in_range, listened_entry, no_route_no_entry}
use Rattle.ospf_routes.proofs.RouteFacts.{area_route_is, listened_route_is}
use Rattle.ospf_routes.proofs.ZoneRoutes.{route_of_area}

-- The router

-- its walks in the area at a place
pub reach_at : (net : Network) (areas : List AreaWalks) (n u zone : ℕ) → AreAreas net areas → IsAreaAt areas n zone → u < length net →
    IsReach net n u (area_reach areas u zone)
reach_at net areas n u zone are at below =
    reach_is net areas n u zone at.area (area_reach areas u zone) are at at.here
    (area_reach_read areas u zone at.area at.within at.here (reach_within net areas u zone at.area are at.within at.here below))

-- the area that it is in
pub inner_place : (net : Network) (areas : List AreaWalks) (listens : List (Option ℕ)) (zone u : ℕ) → AreListeners net areas (length net) listens →
    u < length net → IsInner net listens zone u → IsListenedPlace net areas u zone
inner_place net areas listens zone u are below inner = subst (IsListenerAt net areas u) inner.at (are.each u below)

-- which is the only one
pub only_inside : (net : Network) (u n m : ℕ) → (IsBorderRouter net u → ⊥) → ListensTo net u n → InArea net u m → m ≡ n
only_inside net u n m alone listens inside = listens_to_one_area (one_area alone inside) listens

-- A single offer leads to the same vertex whatever it asks

all_one : {X : Type 0} (P : X → Type 0) (x : X) → P x → All P (x ∷ [])
all_one P x is zero d below = is
all_one P x is (suc k) d below = absurd (omega (arith, below))

abbrev free : ℕ → Offer
free at = record { at = at; asks = 0 }

dearer_total : (distance : Option ℕ) (asks cost : ℕ) → total_with distance 0 ≡ Some cost → total_with distance asks ≡ Some (cost + asks)
dearer_total distance asks cost is = grind (arith, common_steps, none-some, same_Some)

freer_total : (distance : Option ℕ) (asks cost total : ℕ) → total_with distance 0 ≡ Some cost → total_with distance asks ≡ Some total → total ≡ cost + asks
freer_total distance asks cost total is other = grind (arith, common_steps, none-some, same_Some)

free_hops : (reach : Reach) (o : Offer) (n : ℕ) (hops : List ℕ) → AreBestHops reach (free o.at ∷ []) n hops → AreBestHops reach (o ∷ []) n hops
free_hops reach o n hops best =
    record {
      cost = best.cost + o.asks;
      best = record {
        attained = record { offer = o; among = Contains-push [] o; total = dearer_total (distance_of reach o.at) o.asks best.cost here };
        least = λ other has.
            let same : other ≡ best.cost + o.asks = freer_total (distance_of reach o.at) o.asks best.cost other here
            (subst (λ (x : Offer). total_with (distance_of reach x.at) x.asks ≡ Some other) (the_one o has.offer has.among) has.total) in
            omega (arith, same);
      };
      towards = record {
        ascending = best.towards.ascending;
        exact = λ h. (
          λ inside. let is = (best.towards.exact h).0 inside in (
            is.0,
            record {
              offer = o;
              among = Contains-push [] o;
              total = dearer_total (distance_of reach o.at) o.asks best.cost here;
              hop = subst (λ (x : Offer). HasHop reach x.at h) (the_one (free o.at) is.1.offer is.1.among) is.1.hop;
            },
          ),
          λ is. (best.towards.exact h).1 (
            is.0,
            record {
              offer = free o.at;
              among = Contains-push [] (free o.at);
              total = here;
              hop = subst (λ (x : Offer). HasHop reach x.at h) (the_one o is.1.offer is.1.among) is.1.hop;
            },
          ),
        );
      };
    }
  where
    here : total_with (distance_of reach o.at) 0 ≡ Some best.cost
    here = subst (λ (x : Offer). total_with (distance_of reach x.at) x.asks ≡ Some best.cost)
        (the_one (free o.at) best.best.attained.offer best.best.attained.among) best.best.attained.total

-- Decisions

pub one_alone : (offers : List Offer) (o : Offer) → 1 ≤ length offers → length offers < 2 → offers ≡ get_or offers 0 o ∷ []
one_alone offers o some few = grind (arith, common_steps)

-- offers of which the best make the entries lead there
pub leads_by : (l : LaneOf) (u : ℕ) (p : Block) (offers : List Offer) → l.zone < length l.domain.areas →
    AreInRange (area_reach l.domain.areas u l.zone) offers →
    ((hops : List ℕ) → AreBestHops (area_reach l.domain.areas u l.zone) offers (length l.domain.net) hops → OspfEntry l.domain.net u p (Via hops)) →
    LeadsLane l u p offers
leads_by l u p offers within range by =
    let reach : ℕ → Reach = area_reach l.domain.areas u in
    let zones : ℕ = length l.domain.areas in
    let n : ℕ = length l.domain.net in
    record {
      range = range;
      leads = λ t is. route_by_hops reach zones n (AreBestHops (reach l.zone) offers n) (OspfEntry l.domain.net u p) (Towards t) by
          (best_route_makes reach zones n l.zone (reach l.zone) offers (Towards t) within refl is);
      through = λ hops is. route_by_hops reach zones n (AreBestHops (reach l.zone) offers n) (OspfEntry l.domain.net u p) (Through hops) by
          (best_route_makes reach zones n l.zone (reach l.zone) offers (Through hops) within refl is);
    }

pub free_leads : (l : LaneOf) (u : ℕ) (p : Block) (o : Offer) → LeadsLane l u p (o ∷ []) → LeadsLane l u p (free o.at ∷ [])
free_leads l u p o lead =
    let reach : Reach = area_reach l.domain.areas u l.zone in
    record {
      range = all_one (FitsTotal reach) (free o.at) (λ d is. let fits : d + o.asks < 2 ^ 64 = lead.range 0 o (omega arith) d is in omega (arith, fits));
      leads = λ t is. lead.leads t
          (record { zone_is = is.zone_is; reached = is.reached; best = λ hops are. free_hops reach o (length l.domain.net) hops (is.best hops are) });
      through = λ hops are. lead.through hops (free_hops reach o (length l.domain.net) hops are);
    }

-- one or two offers decide, unless the prefix is connected at a router that makes none
few_decide : (l : LaneOf) (u : ℕ) (p : Block) (offers : List Offer) (d : Decision) → IsOfFew offers d →
    (Connected l.domain.net u p → (d ≡ Unknown) ⊎ Any (λ (o : Offer). o.at ≡ u) offers) → ((Connected l.domain.net u p → ⊥) → LeadsLane l u p offers) →
    DecidesRoute u (OspfEntry l.domain.net u p) (LeadsLane l u p) d
few_decide l u p offers Nothing few told lead = absurd few
few_decide l u p offers (NothingBut one other) few told lead = absurd few
few_decide l u p offers (One at) (asks, same) told lead = λ other.
    let o : Offer = record { at = at; asks = asks } in
    free_leads l u p o (subst (LeadsLane l u p) same (lead (λ is.
    ⊎_elim (λ (wrong : One at ≡ Unknown). cc)
    (λ any. other (sym (any_in_one (λ (x : Offer). x.at ≡ u) o (subst (Any (λ (x : Offer). x.at ≡ u)) same any)))) (told is))))
few_decide l u p offers (Two one two) same told lead = λ first second.
    subst (LeadsLane l u p) same (lead (λ is.
    ⊎_elim (λ (wrong : Two one two ≡ Unknown). cc) (λ any. ⊎_elim (λ is. first (sym is)) (λ is. second (sym is))
    (any_in_two (λ (x : Offer). x.at ≡ u) one two (subst (Any (λ (x : Offer). x.at ≡ u)) same any))) (told is)))
few_decide l u p offers Unknown few told lead = tt

-- what is offered in the area decides
pub inside_decides : (l : LaneOf) (u : ℕ) (d : Destination) (part : AreaOffers) (given : List Offer) (decision : Decision) →
    AreAreas l.domain.net l.domain.areas →
    IsDestinationIn l.domain d → u < length l.domain.net → ListensTo l.domain.net u part.area → (IsBorderRouter l.domain.net u → ⊥) →
    Contains d.parts.items part → IsAreaAt l.domain.areas part.area l.zone → given ≡ part.offers.items → IsOfFew given decision →
    (Connected l.domain.net u d.dest → (decision ≡ Unknown) ⊎ Any (λ (o : Offer). o.at ≡ u) given) →
    DecidesRoute u (OspfEntry l.domain.net u d.dest) (LeadsLane l u d.dest) decision
inside_decides l u d part given decision are is below listens alone among at same few told =
    let net : Network = l.domain.net in
    let reach : Reach = area_reach l.domain.areas u l.zone in
    let part_is = part_for l.domain d part is among in
    let walks : IsReach net part.area u reach = reach_at net l.domain.areas part.area u l.zone are at below in
    few_decide l u d.dest given decision few told (λ away.
    leads_by l u d.dest given at.within
    (subst (AreInRange reach) (sym same) (part_in_range l.domain d.dest part u reach are.network part_is walks))
    (λ hops best.
    let route = route_of_area net part.area d.dest u hops (λ h m inside hop. only_inside net u part.area m alone listens inside)
    (area_route_is net part.area d.dest u reach part.offers.items given walks part_is.offers same (length net) refl (Some hops) best) in
    intra_area away route.is route.hops_are))

-- the router has no intra-area route, and listens to these offers
pub record IsOutside (l : LaneOf) (u : ℕ) (p : Block) (offers : List Offer) : Type 0 where
  pub below : u < length l.domain.net
  pub place : IsListenedPlace l.domain.net l.domain.areas u l.zone
  pub no_range : IsActiveRange l.domain.net p u → ⊥
  pub no_intra : IsIntraArea l.domain.net p u → ⊥
  pub heard : AreHeardLike l.domain.net p place.area offers

-- which is so where nothing is offered in its area
pub outside_where : (l : LaneOf) (d : Destination) (offers : List Offer) (u : ℕ) → AreListeners l.domain.net l.domain.areas (length l.domain.net) l.listens →
    IsDestination l.domain.net d → ((n : ℕ) → IsAreaAt l.domain.areas n l.zone → HasAreaPart d.parts.items n → ⊥) →
    AreHeardAt l.domain d.dest l.zone offers → u < length l.domain.net → IsInner l.domain.net l.listens l.zone u →
    IsOutside l u d.dest offers
outside_where l d offers u listeners is no_part heard below inner =
    let place = inner_place l.domain.net l.domain.areas l.listens l.zone u listeners below inner in
    record {
      below = below;
      place = place;
      no_range = λ active. inner.alone active.active.component.range.border;
      no_intra = λ intra. no_intra_given l.domain.net d d.parts.items place.area u is refl (no_part place.area place.at) intra.cost
          (subst (λ (m : ℕ). IntraAreaCost l.domain.net m d.dest u intra.cost)
          (only_inside l.domain.net u place.area intra.area inner.alone place.listens intra.costs.inside) intra.costs);
      heard = heard place.area place.at;
    }

pub outside_at : (l : LaneOf) (d : Destination) (a : AreaWalks) (given : List AreaOffers) (offers : List Offer) →
    a ≡ get_or l.domain.areas l.zone a → AreListeners l.domain.net l.domain.areas (length l.domain.net) l.listens → IsDestination l.domain.net d →
    AreHeardAt l.domain d.dest l.zone offers →
    given ≡ d.parts.items → (HasAreaPart given a.number → ⊥) →
    (u : ℕ) → u < length l.domain.net → IsInner l.domain.net l.listens l.zone u → IsOutside l u d.dest offers
outside_at l d a given offers here listeners is heard same no_part u =
    outside_where l d offers u listeners is
    (λ n at has. no_part (subst (HasAreaPart given) (sym (number_at l.domain.areas n l.zone a at here))
    (subst (λ (parts : List AreaOffers). HasAreaPart parts n) (sym same) has))) heard

-- then what is announced into the area leads it, unless the prefix is connected there
pub outside_leads : (l : LaneOf) (u : ℕ) (p : Block) (offers given : List Offer) → AreAreas l.domain.net l.domain.areas → IsOutside l u p offers →
    given ≡ offers → (Connected l.domain.net u p → ⊥) → LeadsLane l u p given
outside_leads l u p offers given are out same away =
    let reach : Reach = area_reach l.domain.areas u l.zone in
    let n : ℕ = out.place.area in
    let walks : IsReach l.domain.net n u reach = reach_at l.domain.net l.domain.areas n u l.zone are out.place.at out.below in
    leads_by l u p given out.place.at.within (heard_in_range l.domain.net l.domain.areas n p reach offers given are walks out.heard same)
    (listened_entry l.domain.net n p u reach offers given out.no_intra out.no_range out.place.listens walks out.heard same away)

-- and decides
pub outside_decides : (l : LaneOf) (u : ℕ) (p : Block) (offers given : List Offer) (decision : Decision) → AreAreas l.domain.net l.domain.areas →
    IsOutside l u p offers → given ≡ offers → IsOfFew given decision →
    (Connected l.domain.net u p → (decision ≡ Unknown) ⊎ Any (λ (o : Offer). o.at ≡ u) given) →
    DecidesRoute u (OspfEntry l.domain.net u p) (LeadsLane l u p) decision
outside_decides l u p offers given decision are out same few told =
    few_decide l u p given decision few told (outside_leads l u p offers given are out same)

-- also that nothing is
pub nothing_decides : (l : LaneOf) (u : ℕ) (p : Block) (offers given : List Offer) → AreAreas l.domain.net l.domain.areas → IsOutside l u p offers →
    given ≡ offers →
    length given ≡ 0 → (e : Entry) → OspfEntry l.domain.net u p e → ⊥
nothing_decides l u p offers given are out same empty =
    let reach : Reach = area_reach l.domain.areas u l.zone in
    no_route_no_entry l.domain.net u p out.no_intra out.no_range
    (listened_route_is l.domain.net out.place.area p u reach offers given out.no_intra out.no_range out.place.listens
    (reach_at l.domain.net l.domain.areas out.place.area u l.zone are out.place.at out.below) out.heard same (length l.domain.net) refl None
    (λ cost has. omega (arith, has.among.1, empty)))

-- Place by place

pub homes_within : (net : Network) (d : Destination) → IsDestination net d → All (λ (u : ℕ). u < length net) d.homes.items
homes_within net d is k e below =
    let connected = (is.homes (get_or d.homes.items k e)).0 (Contains-get_or d.homes.items k e below) in
    slice_get_within net (get_or d.homes.items k e) connected.up.config connected.up.router
