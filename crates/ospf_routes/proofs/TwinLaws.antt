-- Prefixes that are connected at the same routers and offered and announced alike have the same entries.
use Rattle.std.proofs.lemmas.Grind.{common_steps}
use Rattle.std.proofs.Common.{◌≡◌, ℕ, ◌<◌, ◌↔◌, inl, inr, List, length, get_or, refl, sym, subst, ◌∙◌, arith}
use Rattle.std.specs.List.{All}
use Rattle.std.proofs.lemmas.List.Elements.{All-contains, Contains-get_or}
use Rattle.net_addr.specs.Addresses.{Block}
use Rattle.net_model.specs.Network.{Network, Connected, Adjacent}
use Rattle.net_model.specs.declared.zone.Zone.TheVariants.{Area}
use Rattle.walk_core.specs.Offers.{Offers}
use Rattle.walk_core.specs.declared.offers.Offer.{Offer}
use Rattle.route_core.specs.declared.entry.Entry.{Entry}
use Rattle.route_core.specs.declared.entry.Entry.TheVariants.{Via, Discard}
use Rattle.igp_theory.specs.Routes.{ForwardsTo}
use Rattle.igp_theory.specs.Ospf.{OffersSubnet, IntraAreaCost, IntraAreaHop, IsIntraArea, IsActiveRange, ListensTo, InterAreaCost, InterAreaHop}
use Rattle.igp_theory.specs.Ospf.{OspfEntry, intra_area, discard, inter_area}
use Rattle.route_tables.specs.AlikeOffers.{AreAlikeOffers}
use Rattle.route_tables.proofs.AlikeRoutes.{AskAlike, alike_cost, alike_hop, alike_lists}
use Rattle.route_tables.proofs.BestRoutes.{hops_same}
use Rattle.route_tables.proofs.ListFacts.{all_at}
use Rattle.ospf_routes.specs.steps.Areas.{AreAreas, HasArea, IsAreaAt}
use Rattle.ospf_routes.specs.steps.Destinations.{AreOspfDestinations, HasAreaPart, IsDestination, IsDestinationIn}
use Rattle.ospf_routes.specs.steps.Heard.{AreSummaries}
use Rattle.ospf_routes.specs.steps.Offered.{AreOffers}
use Rattle.ospf_routes.specs.steps.Ranges.{HoldRanges}
use Rattle.ospf_routes.specs.steps.OfferLists.{HeardLists, heard_into}
use Rattle.ospf_routes.specs.steps.Summarized.{IsHeard}
use Rattle.ospf_routes.specs.steps.Twins.{IsTwinPart, AreTwinParts, AreTwinDestinations, AreTwinSummaries}
use Rattle.ospf_routes.specs.steps.Domain.{OspfDomain}
use Rattle.ospf_routes.specs.declared.intra_area.AreaOffers.{AreaOffers}
use Rattle.ospf_routes.specs.declared.intra_area.Destination.{Destination}
use Rattle.ospf_routes.proofs.AreaFacts.{listened_area}
use Rattle.ospf_routes.proofs.CostBounds.{lists_from}
use Rattle.ospf_routes.proofs.HeardFacts.{heard_of}
use Rattle.ospf_routes.proofs.ShiftLaws.{heard_alike}
use Rattle.ospf_routes.proofs.SummaryFacts.{listened_cost, listened_hop}

-- at router u: the second prefix is connected where the first one is alone, no active range is of either, and where the first
-- one has an intra-area cost or is announced, the second one is offered or announced so alike
pub record IsTwinFor (net : Network) (u : ℕ) (p q : Block) : Type 0 where
  pub homes : Connected net u q → Connected net u p
  pub no_range : IsActiveRange net p u → ⊥
  pub other_no_range : IsActiveRange net q u → ⊥
  pub offered : (n cost : ℕ) → IntraAreaCost net n p u cost → AskAlike (OffersSubnet net n p) (OffersSubnet net n q)
  pub announced : (n at asks : ℕ) → ListensTo net u n → IsHeard net p n at asks → AskAlike (IsHeard net p n) (IsHeard net q n)

-- Routes

intra_over : (net : Network) (p q : Block) (u : ℕ) → IsTwinFor net u p q → IsIntraArea net p u → IsIntraArea net q u
intra_over net p q u t is =
    let n : ℕ = is.area in
    let b = alike_cost (Adjacent net (Area n)) u (OffersSubnet net n p) (OffersSubnet net n q) (t.offered n is.cost is.costs) is.cost is.costs.best in
    record { area = n; cost = b.0; costs = record { inside = is.costs.inside; best = b.1 } }

intra_hop_over : (net : Network) (p q : Block) (u h : ℕ) → IsTwinFor net u p q → IntraAreaHop net p u h → IntraAreaHop net q u h
intra_hop_over net p q u h t hop =
    let n : ℕ = hop.area in
    record {
      area = n;
      inside = hop.inside;
      best = alike_hop (Adjacent net (Area n)) u (OffersSubnet net n p) (OffersSubnet net n q)
          (t.offered n hop.best.cost (record { inside = hop.inside; best = hop.best.best })) h hop.best;
    }

inter_over : (net : Network) (p q : Block) (u cost : ℕ) → IsTwinFor net u p q → IsTwinFor net u q p → InterAreaCost net p u cost →
    (twin : ℕ) × InterAreaCost net q u twin
inter_over net p q u cost t back is =
    let n : ℕ = is.area in
    let heard = (listened_cost net p n u cost is.no_intra is.no_range is.listens).0 is.best in
    let costs = heard.attained in
    let no_intra : IsIntraArea net q u → ⊥ = λ intra. is.no_intra (intra_over net q p u back intra) in
    let b = alike_cost (Adjacent net (Area n)) u (IsHeard net p n) (IsHeard net q n)
    (t.announced n heard.at costs.asks is.listens costs.offered) cost heard in (
      b.0,
      record {
        no_intra = no_intra;
        no_range = t.other_no_range;
        area = n;
        listens = is.listens;
        best = (listened_cost net q n u b.0 no_intra t.other_no_range is.listens).1 b.1;
      },
    )

inter_hop_over : (net : Network) (p q : Block) (u h : ℕ) → IsTwinFor net u p q → (IsIntraArea net p u → ⊥) → (IsIntraArea net q u → ⊥) →
    InterAreaHop net p u h → InterAreaHop net q u h
inter_hop_over net p q u h t no_intra other_no_intra hop =
    let n : ℕ = hop.area in
    let heard = (listened_hop net p n u h no_intra t.no_range hop.listens).0 hop.best in
    let costs = heard.attained in
    record {
      area = n;
      listens = hop.listens;
      best = (listened_hop net q n u h other_no_intra t.other_no_range hop.listens).1
          (alike_hop (Adjacent net (Area n)) u (IsHeard net p n) (IsHeard net q n)
          (t.announced n heard.at costs.asks hop.listens costs.offered) h heard);
    }

forwards_over : (hop other : ℕ → Type 0) (e : Entry) → ((h : ℕ) → hop h ↔ other h) → ForwardsTo hop e → ForwardsTo other e
forwards_over hop other (Via hops) same forwards = hops_same hop other hops same forwards
forwards_over hop other Discard same wrong = wrong

entry_over : (net : Network) (p q : Block) (u : ℕ) (e : Entry) → IsTwinFor net u p q → IsTwinFor net u q p → OspfEntry net u p e → OspfEntry net u q e
entry_over net p q u e t back (intra_area away is forwards) =
    intra_area (λ here. away (t.homes here)) (intra_over net p q u t is)
    (forwards_over (IntraAreaHop net p u) (IntraAreaHop net q u) e (λ h. (intra_hop_over net p q u h t, intra_hop_over net q p u h back)) forwards)
entry_over net p q u e t back (discard _ _ range _) = absurd (t.no_range range)
entry_over net p q u e t back (inter_area away cost costs forwards) =
    let twin = inter_over net p q u cost t back costs in
    inter_area (λ here. away (t.homes here)) twin.0 twin.1
    (forwards_over (InterAreaHop net p u) (InterAreaHop net q u) e (λ h. (
      inter_hop_over net p q u h t costs.no_intra twin.1.no_intra,
      inter_hop_over net q p u h back twin.1.no_intra costs.no_intra,
    )) forwards)

-- twins have the same entries
pub twin_entries : (net : Network) (p q : Block) (u : ℕ) (e : Entry) → IsTwinFor net u p q → IsTwinFor net u q p → OspfEntry net u p e ↔ OspfEntry net u q e
twin_entries net p q u e t back = (entry_over net p q u e t back, entry_over net q p u e back t)

-- Parts

-- what the parts of one area say of its offers
alike_parts : (one other : ℕ → Offers) (xs ys : List AreaOffers) (n : ℕ) → All (λ (part : AreaOffers). AreOffers (one part.area) part.offers.items) xs →
    All (λ (part : AreaOffers). AreOffers (other part.area) part.offers.items) ys → AreTwinParts xs ys → HasAreaPart xs n → AskAlike (one n) (other n)
alike_parts one other xs ys n are others twins has =
    let k : ℕ = has.among.0 in
    let x : AreaOffers = has.part in
    let y : AreaOffers = get_or ys k x in
    let count : length xs ≡ length ys = twins.count in
    let is : IsTwinPart x y = subst (λ (part : AreaOffers). IsTwinPart part y) has.among.2 (twins.each k x has.among.1) in
    let ones : AreOffers (one n) x.offers.items = subst (λ (m : ℕ). AreOffers (one m) x.offers.items) has.area
    (All-contains (λ (part : AreaOffers). AreOffers (one part.area) part.offers.items) xs x are has.among) in
    let twin : AreOffers (other n) y.offers.items = subst (λ (m : ℕ). AreOffers (other m) y.offers.items) (sym is.area ∙ has.area)
    (All-contains (λ (part : AreaOffers). AreOffers (other part.area) part.offers.items) ys y others
    (Contains-get_or ys k x (omega (arith, has.among.1)))) in
    alike_lists (one n) (other n) x.offers.items y.offers.items
    (lists_from (one n) x.offers.items x.offers.items ones refl) (lists_from (other n) y.offers.items y.offers.items twin refl) is.offers

-- either list may be the dearer one
pub alike_offers_back : (one other : List Offer) → AreAlikeOffers one other → AreAlikeOffers other one
alike_offers_back one other alike = record { more = alike.more; dearer = elim alike.dearer [ inl up ↦ inr up | inr down ↦ inl down ] }

twin_parts_back : (xs ys : List AreaOffers) → AreTwinParts xs ys → AreTwinParts ys xs
twin_parts_back xs ys twins = grind (arith, common_steps, alike_offers_back)

-- Destinations

pub twin_destinations_back : (ranged : List Block) (d e : Destination) → AreTwinDestinations ranged d e → AreTwinDestinations ranged e d
twin_destinations_back ranged d e twins = record {
  homes = λ u. ((twins.homes u).1, (twins.homes u).0);
  parts = twin_parts_back d.parts.items e.parts.items twins.parts;
  no_range = twins.other_no_range;
  other_no_range = twins.no_range;
}

pub twin_summaries_back : (heard : HeardLists) (one other : ℕ) → AreTwinSummaries heard one other → AreTwinSummaries heard other one
twin_summaries_back heard one other alike zone within = alike_offers_back (heard_into heard one zone) (heard_into heard other zone) (alike zone within)

-- twin destinations are twins at every router, where what is announced of them is alike
pub is_twin_for : (domain : OspfDomain) (ds : List Destination) (ranged : List Block) (heard : HeardLists) (one other : ℕ) (d e : Destination) (u : ℕ) →
    AreAreas domain.net domain.areas → AreOspfDestinations domain ds →
    HoldRanges domain.net ranged → AreSummaries domain ds heard → one < length ds →
    other < length ds → d ≡ get_or ds one d → e ≡ get_or ds other e →
    AreTwinDestinations ranged d e → AreTwinSummaries heard one other → IsTwinFor domain.net u d.dest e.dest
is_twin_for domain ds ranged heard one other d e u known is hold are within_one within_other d_at e_at twins alike = record {
  homes = λ here. (is_d.homes u).0 ((twins.homes u).1 ((is_e.homes u).1 here));
  no_range = λ active. twins.no_range (hold d.dest u active);
  other_no_range = λ active. twins.other_no_range (hold e.dest u active);
  offered = λ n cost costs.
      alike_parts (λ m. OffersSubnet domain.net m d.dest) (λ m. OffersSubnet domain.net m e.dest) d.parts.items e.parts.items n is_d.exact is_e.exact
      twins.parts
      (is_d.every n costs.best.at costs.best.attained.asks costs.best.attained.offered);
  announced = λ n at asks listens _. announced_alike n (listened_area domain.net domain.areas n u known listens);
}
  where
    is_d : IsDestination domain.net d
    is_d = (all_at (IsDestinationIn domain) ds one d is.each within_one d_at).is

    is_e : IsDestination domain.net e
    is_e = (all_at (IsDestinationIn domain) ds other e is.each within_other e_at).is

    announced_alike : (n : ℕ) → HasArea domain.areas n → AskAlike (IsHeard domain.net d.dest n) (IsHeard domain.net e.dest n)
    announced_alike n has =
        let zone : ℕ = has.among.0 in
        let here : IsAreaAt domain.areas n zone =
        record { within = has.among.1; area = has.area; here = sym has.among.2; number = has.number } in
        heard_alike domain.net d.dest e.dest n (heard_into heard one zone) (heard_into heard other zone)
        (heard_of domain ds heard one d are within_one d_at zone here.within n here)
        (heard_of domain ds heard other e are within_other e_at zone here.within n here)
        (alike zone (subst (λ (m : ℕ). zone < m) (sym are.areas_are) here.within))
