-- The routes of a router within and between areas.
use Rattle.std.proofs.Common.{◌≡◌, ℕ, ◌+◌, ◌<◌, ◌≤◌, ◌↔◌, ◌⊎◌, inl, inr, ⊎_elim, List, [], ◌∷◌, ◌++◌, length, take, get_or, Option, Some, None, MatchOption}
use Rattle.std.proofs.Common.{refl, sym, ap, subst, ◌∙◌, arith}
use Rattle.std.specs.List.{Contains, Any}
use Rattle.std.specs.List.Sorted.{IsStrictlyIncreasing}
use Rattle.std.proofs.lemmas.Option.{none-some, same_Some}
use Rattle.std.proofs.lemmas.List.{take_all}
use Rattle.std.proofs.lemmas.List.Quantifiers.{Any-push}
use Rattle.std.proofs.lemmas.List.Elements.{Contains-get_or, Contains-push_cases}
use Rattle.net_addr.specs.Addresses.{Block}
use Rattle.net_model.proofs.NetworkFacts.{Adjacent-to_within}
use Rattle.net_model.specs.Network.{Network, Adjacent, InArea}
use Rattle.net_model.specs.declared.zone.Zone.TheVariants.{Area}
use Rattle.walk_core.specs.Walks.{Arcs}
use Rattle.walk_core.specs.Offers.{Offers, BestCost, BestHop}
use Rattle.walk_core.specs.Reach.{Reach}
use Rattle.walk_core.specs.BestOffers.{NoneTotals}
use Rattle.walk_core.specs.declared.offers.Offer.{Offer}
use Rattle.walk_core.proofs.OfferLaws.{best_total_is_best_cost, none_totals_no_best}
use Rattle.walk_core.proofs.WalkLaws.{best_hop_is_arc}
use Rattle.igp_theory.specs.Ospf.{OffersSubnet, IntraAreaCost, IntraAreaHop, IsActiveRange, IsIntraArea, ListensTo, OfOthers, Summary, InterAreaHop}
use Rattle.igp_theory.proofs.TableLaws.{listens_to_one_area}
use Rattle.ospf_routes.specs.steps.Areas.{IsReach}
use Rattle.ospf_routes.specs.steps.Offered.{AreOffers}
use Rattle.ospf_routes.specs.Lists.{Adds}
use Rattle.route_tables.proofs.BestRoutes.{best_hops_are, hops_same}
use Rattle.route_tables.specs.BestRoutes.{AreBestHops}
use Rattle.ospf_routes.specs.steps.Routing.{AreUnited, AreSomeUnited, IsAreaRoute, AreAreaRoutes, IsIntraRoute, ListenedCost, IsListenedRoute}
use Rattle.ospf_routes.specs.steps.Destinations.{HasAreaPart, IsDestination}
use Rattle.ospf_routes.specs.declared.intra_area.Destination.{Destination}
use Rattle.ospf_routes.specs.steps.Summarized.{IsHeard}
use Rattle.ospf_routes.specs.declared.intra_area.AreaOffers.{AreaOffers}
use Rattle.route_tables.proofs.AlikeRoutes.{AskAlike, alike_cost, alike_hop, alike_turned}
use Rattle.ospf_routes.specs.steps.Heard.{AreHeardLike}
use Rattle.ospf_routes.proofs.CostBounds.{lists_from}
use Rattle.ospf_routes.proofs.ShiftLaws.{shifted_alike}
use Rattle.ospf_routes.proofs.IntraFacts.{reaches_inside}
use Rattle.ospf_routes.proofs.SummaryFacts.{listened_cost, listened_hop}
use Rattle.net_addr.proofs.SomeElement.{any_of, any_in, any_left, any_cases, one_more}

-- Within an area

pub area_route_is : (net : Network) (n : ℕ) (p : Block) (u : ℕ) (reach : Reach) (offers given : List Offer) → IsReach net n u reach →
    AreOffers (OffersSubnet net n p) offers → given ≡ offers →
    (count : ℕ) → count ≡ length net → (found : Option (List ℕ)) → MatchOption found (NoneTotals reach given) (AreBestHops reach given count) →
    MatchOption found ((cost : ℕ) → IntraAreaCost net n p u cost → ⊥) (IsAreaRoute net n p u)
area_route_is net n p u reach offers given reach_is are same count is None none = λ cost costs.
    none_totals_no_best (Adjacent net (Area n)) u reach (OffersSubnet net n p) given reach_is.least
    (lists_from (OffersSubnet net n p) offers given are same) none cost costs.best
area_route_is net n p u reach offers given reach_is are same count is (Some hops) best =
    let arc : Arcs = Adjacent net (Area n) in
    let listed = lists_from (OffersSubnet net n p) offers given are same in
    let costs : BestCost arc (OffersSubnet net n p) u best.cost =
    (best_total_is_best_cost arc u reach (OffersSubnet net n p) given best.cost reach_is.least listed).0 best.best in
    let inside : InArea net u n = reaches_inside net n p u best.cost costs in
    record {
      inside = inside;
      cost = best.cost;
      costs = record { inside = inside; best = costs };
      hops_are = best_hops_are arc u reach (OffersSubnet net n p) given count hops reach_is.least listed
          (λ h c over. subst (λ (m : ℕ). h < m) (sym is) (Adjacent-to_within net (Area n) u h c over)) best;
    }

-- the routes in the first areas
pub record AreaListsSoFar (net : Network) (p : Block) (u : ℕ) (front : List AreaOffers) (lists : List (List ℕ)) : Type 0 where
  pub each : (hops : List ℕ) → Contains lists hops → (n : ℕ) × IsAreaRoute net n p u hops
  pub every : (n cost : ℕ) → HasAreaPart front n → IntraAreaCost net n p u cost → (hops : List ℕ) × Contains lists hops × IsAreaRoute net n p u hops

part_cases : (front : List AreaOffers) (a : AreaOffers) (n : ℕ) → HasAreaPart (front ++ a ∷ []) n → HasAreaPart front n ⊎ (a.area ≡ n)
part_cases front a n has = ⊎_elim
    (λ among. inl (record { part = has.part; among = among; area = has.area }))
    (λ same. inr (ap (λ (x : AreaOffers). x.area) same ∙ has.area))
    (Contains-push_cases front a has.part has.among)

pub area_lists_more : (net : Network) (p : Block) (u : ℕ) (front : List AreaOffers) (a : AreaOffers) (old new : List (List ℕ)) (found : Option (List ℕ)) →
    AreaListsSoFar net p u front old →
    MatchOption found ((cost : ℕ) → IntraAreaCost net a.area p u cost → ⊥) (IsAreaRoute net a.area p u) → Adds old new (λ x. found ≡ Some x) →
    AreaListsSoFar net p u (front ++ a ∷ []) new
area_lists_more net p u front a old new None before none adds = record {
  each = λ hops has. ⊎_elim (λ older. before.each hops older) (λ no. absurd (none-some hops no)) ((adds hops).0 has);
  every = λ n cost has costs. ⊎_elim
      (λ earlier. let e = before.every n cost earlier costs in (e.0, (adds e.0).1 (inl e.1), e.2))
      (λ same. absurd (none cost (subst (λ (m : ℕ). IntraAreaCost net m p u cost) (sym same) costs)))
      (part_cases front a n has);
}
area_lists_more net p u front a old new (Some x) before route adds = record {
  each = λ hops has. ⊎_elim
      (λ older. before.each hops older)
      (λ same. (a.area, subst (IsAreaRoute net a.area p u) (same_Some x hops same) route))
      ((adds hops).0 has);
  every = λ n cost has costs. ⊎_elim
      (λ earlier. let e = before.every n cost earlier costs in (e.0, (adds e.0).1 (inl e.1), e.2))
      (λ same. (x, (adds x).1 (inr refl), subst (λ (m : ℕ). IsAreaRoute net m p u x) same route))
      (part_cases front a n has);
}

pub area_lists_all : (net : Network) (d : Destination) (given : List AreaOffers) (u : ℕ) (lists : List (List ℕ)) → IsDestination net d →
    given ≡ d.parts.items → AreaListsSoFar net d.dest u given lists →
    AreAreaRoutes net d.dest u lists
area_lists_all net d given u lists is same so_far = record {
  each = so_far.each;
  every = λ n cost costs.
      let best = costs.best in
      let has : HasAreaPart given n = subst (λ (l : List AreaOffers). HasAreaPart l n) (sym same)
      (is.every n best.at best.attained.asks best.attained.offered) in
      so_far.every n cost has costs;
}

-- United lists

-- the hops below n that are in one of the lists, in any order
abbrev pub AreSomeOf : List (List ℕ) → ℕ → List ℕ → Type 0
AreSomeOf lists n hops = (h : ℕ) → Contains hops h ↔ ((h < n) × Any (λ (list : List ℕ). Contains list h) lists)

-- the hops of one more list
pub some_of_more : (lists : List (List ℕ)) (i : ℕ) (list given : List ℕ) (n : ℕ) (old new : List ℕ) → i < length lists → list ≡ get_or lists i list →
    given ≡ list → AreSomeOf (take i lists) n old →
    ((h : ℕ) → Contains new h ↔ (Contains old h ⊎ ((h < n) × Contains given h))) → AreSomeOf (take (i + 1) lists) n new
some_of_more lists i list given n old new within is same before adds =
    subst (λ (l : List (List ℕ)). AreSomeOf l n new) (one_more lists i list within is) (λ h. (
      λ has. ⊎_elim
          (λ older. let both = (before h).0 older in (both.0, any_left (λ (l : List ℕ). Contains l h) (take i lists) list both.1))
          (λ both. (both.0, Any-push (λ (l : List ℕ). Contains l h) (take i lists) list (subst (λ (l : List ℕ). Contains l h) same both.1)))
          ((adds h).0 has),
      λ both. ⊎_elim
          (λ earlier. (adds h).1 (inl ((before h).1 (both.0, earlier))))
          (λ now. (adds h).1 (inr (both.0, subst (λ (l : List ℕ). Contains l h) (sym same) now)))
          (any_cases (λ (l : List ℕ). Contains l h) (take i lists) list both.1),
    ))

-- the hops of all lists, in order
pub united_of_all : (lists : List (List ℕ)) (i n : ℕ) (hops sorted : List ℕ) → length lists ≤ i → AreSomeOf (take i lists) n hops →
    IsStrictlyIncreasing sorted →
    ((h : ℕ) → Contains sorted h ↔ Contains hops h) → AreUnited lists n sorted
united_of_all lists i n hops sorted past some ascending kept =
    let all : AreSomeOf lists n hops = subst (λ (l : List (List ℕ)). AreSomeOf l n hops) (take_all i lists past) some in
    record {
      ascending = ascending;
      exact = λ h. (λ has. (all h).0 ((kept h).0 has), λ both. (kept h).1 ((all h).1 both));
    }

-- All areas together

pub no_lists : (net : Network) (p : Block) (u : ℕ) (lists : List (List ℕ)) → AreAreaRoutes net p u lists → length lists ≡ 0 → IsIntraArea net p u → ⊥
no_lists net p u lists are empty is =
    let e = are.every is.area is.cost is.costs in
    let inside : Contains lists e.0 = e.1 in
    omega (arith, inside.1)

pub united_route : (net : Network) (p : Block) (u : ℕ) (lists given : List (List ℕ)) (count : ℕ) (hops : List ℕ) → AreAreaRoutes net p u lists →
    given ≡ lists → (length lists ≡ 0 → ⊥) → count ≡ length net → AreUnited given count hops →
    IsIntraRoute net p u hops
united_route net p u lists given count hops are same some is united =
    record {
      is = intra (are.each (get_or lists 0 []) (Contains-get_or lists 0 [] (omega arith)));
      hops_are = record { ascending = united.ascending; exact = λ h. (there h, back h) };
    }
  where
    intra : (n : ℕ) × IsAreaRoute net n p u (get_or lists 0 []) → IsIntraArea net p u
    intra route = record { area = route.0; cost = route.1.cost; costs = route.1.costs }

    all : AreAreaRoutes net p u given
    all = subst (AreAreaRoutes net p u) (sym same) are

    there : (h : ℕ) → Contains hops h → IntraAreaHop net p u h
    there h inside =
        let both = (united.exact h).0 inside in
        let f = any_in (λ (l : List ℕ). Contains l h) given both.1 in
        let route = all.each f.item f.among in
        record { area = route.0; inside = route.1.inside; best = (route.1.hops_are.exact h).0 f.holds }

    back : (h : ℕ) → IntraAreaHop net p u h → Contains hops h
    back h hop =
        let over = best_hop_is_arc hop.best in
        let within : h < length net = Adjacent-to_within net (Area hop.area) u h over.0 over.1 in
        let route = all.every hop.area hop.best.cost (record { inside = hop.inside; best = hop.best.best }) in
        (united.exact h).1 (omega arith, any_of (λ (l : List ℕ). Contains l h) given route.0 route.1 ((in_area route.2).1 hop.best))
      where
        in_area : {list : List ℕ} → IsAreaRoute net hop.area p u list →
            Contains list h ↔ BestHop (Adjacent net (Area hop.area)) (OffersSubnet net hop.area p) u h
        in_area route = route.hops_are.exact h

pub intra_route_is : (net : Network) (p : Block) (u : ℕ) (lists given : List (List ℕ)) (count : ℕ) → AreAreaRoutes net p u lists → given ≡ lists →
    count ≡ length net → (found : Option (List ℕ)) →
    MatchOption found (length given ≡ 0) (AreSomeUnited given count) → MatchOption found (IsIntraArea net p u → ⊥) (IsIntraRoute net p u)
intra_route_is net p u lists given count are same counted None none =
    let e : length given ≡ length lists = ap length same in no_lists net p u lists are (omega arith)
intra_route_is net p u lists given count are same counted (Some hops) some =
    let e : length given ≡ length lists = ap length same in
    let many : 0 < length given = some.some in
    united_route net p u lists given count hops are same (λ none. omega arith) counted some.united

-- Between areas

pub listened_route_is : (net : Network) (n : ℕ) (p : Block) (u : ℕ) (reach : Reach) (offers given : List Offer) → (IsIntraArea net p u → ⊥) →
    (IsActiveRange net p u → ⊥) → ListensTo net u n → IsReach net n u reach → AreHeardLike net p n offers → given ≡ offers → (count : ℕ) →
    count ≡ length net → (found : Option (List ℕ)) → MatchOption found (NoneTotals reach given) (AreBestHops reach given count) →
    MatchOption found ((cost : ℕ) → ListenedCost net p u cost → ⊥) (IsListenedRoute net p u)
listened_route_is net n p u reach offers given no_intra no_range listens is are same count counted None none = λ cost costs.
    let arc : Arcs = Adjacent net (Area n) in
    let offer : Offers = IsHeard net are.of n in
    let here : BestCost arc (OfOthers (Summary net p n) u) u cost = subst (λ (m : ℕ). BestCost (Adjacent net (Area m)) (OfOthers (Summary net p m) u) u cost)
    (listens_to_one_area costs.listens listens) costs.best in
    let best = alike_cost arc u (IsHeard net p n) offer (alike_turned (shifted_alike are.shift)) cost ((listened_cost net p n u cost no_intra no_range listens).0 here) in
    none_totals_no_best arc u reach offer given is.least (lists_from offer offers given are.offers_are same) none best.0 best.1
listened_route_is net n p u reach offers given no_intra no_range listens is are same count counted (Some hops) best =
    let arc : Arcs = Adjacent net (Area n) in
    let offer : Offers = IsHeard net are.of n in
    let heard : Offers = IsHeard net p n in
    let alike : AskAlike offer heard = shifted_alike are.shift in
    let listed = lists_from offer offers given are.offers_are same in
    let costs = alike_cost arc u offer heard alike best.cost
    ((best_total_is_best_cost arc u reach offer given best.cost is.least listed).0 best.best) in
    record {
      cost = costs.0;
      costs = record { area = n; listens = listens; best = (listened_cost net p n u costs.0 no_intra no_range listens).1 costs.1 };
      hops_are = hops_same (BestHop arc offer u) (InterAreaHop net p u) hops
          (λ h. (
            λ hop. record {
              area = n;
              listens = listens;
              best = (listened_hop net p n u h no_intra no_range listens).1 (alike_hop arc u offer heard alike h hop);
            },
            λ hop. alike_hop arc u heard offer (alike_turned alike) h ((listened_hop net p n u h no_intra no_range listens).0
                (subst (λ (m : ℕ). BestHop (Adjacent net (Area m)) (OfOthers (Summary net p m) u) u h) (listens_to_one_area hop.listens listens) hop.best)),
          ))
          (best_hops_are arc u reach offer given count hops is.least listed
          (λ h c over. subst (λ (m : ℕ). h < m) (sym counted) (Adjacent-to_within net (Area n) u h c over)) best);
    }
