-- How a router reaches each vertex, and what that tells of its entries.
use Rattle.std.proofs.lemmas.Grind.{common_steps}
use Rattle.std.proofs.Common.{◌≡◌, ◌≢◌, ℕ, ◌+◌, ◌<◌, ◌≤◌, inl, inr, List, [], ◌∷◌, ◌++◌, Option, Some, IfSome, MatchOption, length, get_or, refl, sym, ap}
use Rattle.std.proofs.Common.{subst, ◌∙◌, arith, true, false, set, None, replicate, ◌⊎◌}
use Rattle.std.specs.List.{Contains}
use Rattle.std.proofs.lemmas.Bool.{cases_eq, cases_lt, false≢true}
use Rattle.std.proofs.lemmas.List.{get_or-replicate, get_or-set_other, get_or-set_same, length-replicate, length-set}
use Rattle.std.proofs.lemmas.List.Elements.{Contains-append_left, Contains-push, Contains-push_cases}
use Rattle.std.proofs.lemmas.Option.{none-some, same_Some}
use Rattle.net_addr.specs.Addresses.{Block}
use Rattle.walk_core.specs.KeptWalks.{lone_row}
use Rattle.walk_core.specs.Reach.{Reach, HasHop, distance_of, listed_hops_of}
use Rattle.walk_core.specs.Stretches.{ReachFrom, reach_along}
use Rattle.walk_core.proofs.StretchLaws.{back_is_far, front_is_far, lone_is_far}
use Rattle.walk_core.specs.BestOffers.{AreHopsTowards, total_towards, total_with}
use Rattle.walk_core.specs.declared.offers.Offer.{Offer}
use Rattle.route_core.specs.declared.entry.Entry.{Entry}
use Rattle.route_core.specs.declared.entry.Entry.TheVariants.{Via, Discard}
use Rattle.route_tables.specs.Lanes.{DecidesBeyond, DecidesRoute, IsBeyond, LeadToBest, MissesOffers}
use Rattle.route_tables.specs.Routings.{IsEntryTo, IsRouteFor}
use Rattle.route_tables.specs.declared.best.BestAt.{BestAt}
use Rattle.route_tables.specs.Protocols.{ProtocolRoutes}
use Rattle.route_tables.specs.declared.lane.Behind.{Behind}
use Rattle.route_tables.specs.declared.lane.Decision.{Decision}
use Rattle.route_tables.specs.declared.leads.Lead.{Lead}
use Rattle.route_tables.specs.declared.pool.Pool.{Pool}
use Rattle.route_tables.specs.declared.sharing.TwoMakers.{TwoMakers}
use Rattle.route_tables.specs.steps.BestSoFar.{IsBestAt, IsBetterOf, lower, kept, both}
use Rattle.route_tables.specs.steps.Leads.{AreLeads, AreLeadsBelow, AreLeadsTo, AreLevelMakers, AreMissed, IsFarAt, IsLead, IsLeadAt, IsNumberToBest, IsTold, IsLeadTo}
use Rattle.route_tables.specs.steps.Leads.{told_best, told_nothing, told_nothing_but, told_one}
use Rattle.route_tables.specs.steps.Leads.{IsToldBeyond, far_lead, no_lead}
use Rattle.route_tables.specs.steps.Sharing.{AreHopsToEither, AreOverOne, HasNumber, HasSomeNumber, IsEntryToEither, IsNumberOf}
use Rattle.route_tables.proofs.ListFacts.{the_one}
use Rattle.route_tables.proofs.SharingLaws.{number_kept}
use Rattle.route_tables.proofs.BestSteps.{LeadBelow, below_hops, best_is_reached, best_of_none, better_more, first_more}

-- Leads while entries come

-- what a lead says stays so with more entries
lead_kept : (reach : Reach) (n : ℕ) (entries more : List Entry) (at : ℕ) (lead : Lead) → IsLead reach n entries at lead →
    IsLead reach n (entries ++ more) at lead
lead_kept reach n entries more at lead is = grind (arith, common_steps, number_kept)

leads_to_kept : (reach : Reach) (n : ℕ) (entries more : List Entry) (leads : List Lead) → AreLeadsTo reach n entries leads →
    AreLeadsTo reach n (entries ++ more) leads
leads_to_kept reach n entries more leads are = λ at within. lead_kept reach n entries more at (get_or leads at no_lead) (are at within)

leads_kept : (reach : Reach) (u n : ℕ) (entries more : List Entry) (leads : List Lead) → AreLeads reach u n entries leads →
    AreLeads reach u n (entries ++ more) leads
leads_kept reach u n entries more leads are = record { each = leads_to_kept reach n entries more leads are.each; own = are.own }

-- a lead to nothing says nothing
no_lead_is : (reach : Reach) (n : ℕ) (entries : List Entry) (at : ℕ) → IsLead reach n entries at no_lead
no_lead_is reach n entries at = record { to = tt; far = λ same. let here = ap (λ (l : Lead). l.distance) same in absurd (omega (arith, here)) }

-- a lead to what isn't reached says that it isn't
far_lead_is : (reach : Reach) (n : ℕ) (entries : List Entry) (at : ℕ) → distance_of reach at ≡ None →
    IsLead reach n entries at far_lead
far_lead_is reach n entries at none = record { to = tt; far = λ same. none }

far_lead_at : (count at : ℕ) → at < length (replicate count far_lead) → get_or (replicate count far_lead) at no_lead ≡ far_lead
far_lead_at count at within = get_or-replicate count at far_lead no_lead (omega (arith, within, length-replicate count far_lead))

-- a lead with the number of the entry towards a vertex
pub lead_with : (reach : Reach) (n : ℕ) (entries : List Entry) (at distance : ℕ) (number : Option ℕ) →
    distance_of reach at ≡ Some distance → HasSomeNumber (IsEntryTo reach at n) entries number →
    IsLead reach n entries at (record { distance = distance; number = number })
lead_with reach n entries at distance None far has = absurd has
lead_with reach n entries at distance (Some number) far has = record {
  to = record { far = far; entry = has };
  far = λ same. absurd (none-some number (sym (ap (λ (l : Lead). l.number) same)));
}

-- where one hop below n alone leads there, the entry over it has its number
pub only_number : (reach : Reach) (at n : ℕ) (entries : List Entry) (hop : ℕ) → listed_hops_of reach at ≡ hop ∷ [] → hop < n →
    AreOverOne n entries → HasNumber (IsEntryTo reach at n) entries hop
only_number reach at n entries hop only less over =
    let has : HasNumber (λ entry. entry ≡ Via (hop ∷ [])) entries hop = over hop less in
    record {
      below = has.below;
      is = record {
        hops = hop ∷ [];
        is = has.is;
        are = record {
          ascending = λ k below. absurd (omega (arith, below));
          exact = λ h. (
            λ among. (omega (arith, less, the_one hop h among), subst (λ (hops : List ℕ). Contains hops h) (sym only) among),
            λ has. subst (λ (hops : List ℕ). Contains hops h) only has.1,
          );
        };
      };
    }

-- a number that is there, of entries that these are
pub number_as : (wanted : Entry → Type 0) (old new : Pool) (number : Option ℕ) (own : ℕ) → number ≡ Some own → new ≡ old →
    HasNumber wanted old.entries.items own → HasSomeNumber wanted new.entries.items number
number_as wanted old new number own is same has =
    subst (HasSomeNumber wanted new.entries.items) (sym is)
    (subst (λ (pool : Pool). HasNumber wanted pool.entries.items own) (sym same) has)

-- before the first vertex of a stretch all are such
pub leads_begun : (s : ReachFrom) (reach : Reach) (n count : ℕ) (entries : List Entry) → reach_along s ≡ reach →
    AreLeadsBelow reach n s.first entries (replicate count far_lead)
leads_begun s reach n count entries same = record {
  below = λ at before within. subst (IsLead reach n entries at) (sym (far_lead_at count at within))
      (far_lead_is reach n entries at (subst (λ (r : Reach). distance_of r at ≡ None) same (front_is_far s at before)));
  others = λ at past within. far_lead_at count at within;
}

-- one more lead, by which there may be more entries
pub leads_more : (reach : Reach) (n next : ℕ) (entries more : List Entry) (leads : List Lead) (lead : Lead) →
    AreLeadsBelow reach n next entries leads → IsLead reach n (entries ++ more) next lead →
    AreLeadsBelow reach n (next + 1) (entries ++ more) (set leads next lead)
leads_more reach n next entries more leads lead are here = record {
  below = λ at less within. elim (cases_eq at next) [
    | inl same ↦ subst (IsLead reach n (entries ++ more) at)
        (sym (ap (λ (i : ℕ). get_or (set leads next lead) i no_lead) same
        ∙ get_or-set_same leads next lead no_lead (inside (subst (λ (i : ℕ). i < length (set leads next lead)) same within))))
        (subst (λ (i : ℕ). IsLead reach n (entries ++ more) i lead) (sym same) here)
    | inr other ↦ subst (IsLead reach n (entries ++ more) at) (sym (get_or-set_other leads next at lead no_lead other))
        (lead_kept reach n entries more at (get_or leads at no_lead) (are.below at (omega (arith, less, other)) (inside within)))
  ];
  others = λ at past within. get_or-set_other leads next at lead no_lead (λ same. omega (arith, same, past))
      ∙ are.others at (omega (arith, past)) (inside within);
}
  where
    inside : {at : ℕ} → at < length (set leads next lead) → at < length leads
    inside within = omega (arith, within, length-set leads next lead)

-- they are leads to all vertices where none is reached that is left
pub leads_whole : (s : ReachFrom) (reach : Reach) (n next : ℕ) (entries : List Entry) (leads : List Lead) → reach_along s ≡ reach →
    AreLeadsBelow reach n next entries leads → (length leads ≤ next) ⊎ (s.first + length s.distances ≤ next) →
    AreLeadsTo reach n entries leads
leads_whole s reach n next entries leads same are past at within = elim (cases_lt at next) [
  | inl before ↦ are.below at before within
  | inr behind ↦ subst (IsLead reach n entries at) (sym (are.others at (omega (arith, behind)) within))
      (far_lead_is reach n entries at (subst (λ (r : Reach). distance_of r at ≡ None) same (back_is_far s at (elim past [
        | inl all ↦ absurd (omega (arith, all, behind, within))
        | inr end ↦ omega (arith, end, behind)
      ]))))
]

-- those from a root that reaches itself alone
pub leads_apart : (root n count : ℕ) (entries : List Entry) (reach : Reach) →
    reach ≡ (record { distances = lone_row root; hops = [] }) → AreLeadsTo reach n entries (set (replicate count far_lead) root no_lead)
leads_apart root n count entries reach is at within = elim (cases_eq at root) [
  | inl same ↦ subst (IsLead reach n entries at) (sym (ap (λ (i : ℕ). get_or (set all root no_lead) i no_lead) same
      ∙ get_or-set_same all root no_lead no_lead (inside (subst (λ (i : ℕ). i < length (set all root no_lead)) same within))))
      (no_lead_is reach n entries at)
  | inr other ↦ subst (IsLead reach n entries at)
      (sym (get_or-set_other all root at no_lead no_lead other ∙ far_lead_at count at (inside within)))
      (far_lead_is reach n entries at (ap (λ (r : Reach). distance_of r at) is ∙ lone_is_far root at other))
]
  where
    all : List Lead
    all = replicate count far_lead

    inside : {at : ℕ} → at < length (set all root no_lead) → at < length all
    inside within = omega (arith, within, length-set all root no_lead)

-- leads to the vertices, but for one to router u itself
pub leads_but : (reach : Reach) (u n : ℕ) (entries : List Entry) (leads : List Lead) → AreLeadsTo reach n entries leads →
    AreLeads reach u n entries (set leads u no_lead)
leads_but reach u n entries leads are = record {
  each = λ at within. elim (cases_eq at u) [
    | inl same ↦ subst (IsLead reach n entries at) (sym (own at same)) (no_lead_is reach n entries at)
    | inr other ↦ subst (IsLead reach n entries at) (sym (get_or-set_other leads u at no_lead no_lead other))
        (are at (let long = length-set leads u no_lead in omega (arith, long, within)))
  ];
  own = own u refl;
}
  where
    own : (at : ℕ) → at ≡ u → get_or (set leads u no_lead) at no_lead ≡ no_lead
    own at same = grind (arith, common_steps, cases_lt, get_or-set_same)

-- leads by the walks that are known are those by walks that these are
pub leads_by : {W : Type 0} (found : Option W) (now : W → Reach) (reach : Reach) (u n : ℕ) (entries : List Entry) (leads : List Lead) →
    IfSome found (λ walks. now walks ≡ reach) → MatchOption found (leads ≡ []) (λ walks. AreLeads (now walks) u n entries leads) →
    AreLeads reach u n entries leads
leads_by None now reach u n entries leads known none =
    subst (AreLeads reach u n entries) (sym none) (record { each = λ at within. absurd (omega (arith, within)); own = refl })
leads_by (Some walks) now reach u n entries leads known are = subst (λ (r : Reach). AreLeads r u n entries leads) known are

-- they stay so with more entries
pub lane_leads_kept : {W : Type 0} (found : Option W) (now : W → Reach) (u n : ℕ) (entries more : List Entry) (leads : List Lead) →
    MatchOption found (leads ≡ []) (λ walks. AreLeads (now walks) u n entries leads) →
    MatchOption found (leads ≡ []) (λ walks. AreLeads (now walks) u n (entries ++ more) leads)
lane_leads_kept found now u n entries more leads none = grind (arith, common_steps, leads_kept)

-- What leads tell

-- the lead to a vertex has the number of the entry towards it
led_to : (reach : Reach) (n : ℕ) (entries : List Entry) (leads : List Lead) (at : ℕ) (lead : Lead) (number : ℕ) → AreLeadsTo reach n entries leads →
    IsLeadAt leads at lead → lead.number ≡ Some number → IsLeadTo reach n entries at lead.distance number
led_to reach n entries leads at lead number are is known = grind (arith, common_steps)

-- a lead that has a number isn't one to the router itself
led_apart : (reach : Reach) (u n : ℕ) (entries : List Entry) (leads : List Lead) (at : ℕ) (lead : Lead) → AreLeads reach u n entries leads →
    IsLeadAt leads at lead → u ≢ at
led_apart reach u n entries leads at lead are is = λ same.
    let none : lead ≡ no_lead = sym is.is ∙ sym (ap (λ (v : ℕ). get_or leads v no_lead) same) ∙ are.own in
    none-some is.number (sym (ap (λ (l : Lead). l.number) none) ∙ is.known)

-- an entry over hops has these hops
abbrev hops_in : Entry → List ℕ
hops_in (Via hops) = hops
hops_in Discard = []

-- where one entry is that towards two vertices, both have the same first hops below n
same_hops : (reach : Reach) (n one other : ℕ) (entry : Entry) → IsEntryTo reach one n entry → IsEntryTo reach other n entry →
    (h : ℕ) → h < n → HasHop reach other h → HasHop reach one h
same_hops reach n one other entry first second h below has =
    let same : second.hops ≡ first.hops = ap hops_in (sym second.is ∙ first.is) in
    ((first.are.exact h).0 (subst (λ (l : List ℕ). Contains l h) same ((second.are.exact h).1 (below, has)))).1

-- the best offer's number is that of the entry of routes to the best offers
best_number : (reach : ℕ → Reach) (zones zone n : ℕ) (entry : Entry → Type 0) (entries : List Entry) (offers : List Offer) (best : BestAt) (number : ℕ) →
    LeadToBest (reach zone) zone n (IsRouteFor reach zones n entry) offers → IsBestAt (reach zone) offers best → LeadBelow (reach zone) offers n best →
    HasNumber (IsEntryTo (reach zone) best.at n) entries number → HasNumber entry entries number
best_number reach zones zone n entry entries offers best number lead is alike has =
    let route = lead.leads (record { zone = zone; at = best.at }) (record {
      zone_is = refl;
      reached = best_is_reached (reach zone) offers best is;
      best = below_hops (reach zone) offers best n is alike;
    }) in
    record { below = has.below; is = route.makes (get_or entries number Discard) has.is }

-- a vertex that alone makes the best offers leads as they do
alike_alone : (reach : Reach) (offers : List Offer) (n : ℕ) (best : BestAt) → IsBestAt reach offers best → best.alone ≡ true → LeadBelow reach offers n best
alike_alone reach offers n best is alone = λ o among total h below has. subst (λ (at : ℕ). HasHop reach at h) (is.alone alone o among total) has

-- the best of two offers that are reached
best_of_two : (reach : Reach) (one other : Offer) (a b : ℕ) (best : BestAt) → total_towards reach one ≡ Some a → total_towards reach other ≡ Some b →
    IsBetterOf (record { cost = a; at = one.at; alone = true }) (record { cost = b; at = other.at; alone = true }) best →
    IsBestAt reach (one ∷ other ∷ []) best
best_of_two reach one other a b best first second better =
    let known : BestAt = record { cost = a; at = one.at; alone = true } in
    let next : BestAt = record { cost = b; at = other.at; alone = true } in
    better_more reach (one ∷ []) other known next best second refl (first_more reach [] one known first refl (best_of_none reach)) better

-- both lead as one does where the entry towards both is the same
alike_both : (reach : Reach) (one other : Offer) (n : ℕ) (best : BestAt) (entry : Entry) → best.at ≡ one.at → IsEntryTo reach one.at n entry →
    IsEntryTo reach other.at n entry → LeadBelow reach (one ∷ other ∷ []) n best
alike_both reach one other n best entry at first second = λ o among total h below has.
    subst (λ (v : ℕ). HasHop reach v h) (sym at) (elim (Contains-push_cases (one ∷ []) other o among) [
      | inl earlier ↦ subst (λ (x : Offer). HasHop reach x.at h) (the_one one o earlier) has
      | inr same ↦ same_hops reach n one.at other.at entry first second h below (subst (λ (x : Offer). HasHop reach x.at h) (sym same) has)
    ])

-- what the leads to two offers tell is the number of the entry
told_of_two : (reach : ℕ → Reach) (zones zone n : ℕ) (entry : Entry → Type 0) (entries : List Entry) (leads : List Lead) (one other : Offer)
    (number : Option ℕ) → AreLeadsTo (reach zone) n entries leads →
    LeadToBest (reach zone) zone n (IsRouteFor reach zones n entry) (one ∷ other ∷ []) → IsNumberToBest leads one other number →
    IsNumberOf entry entries number
told_of_two reach zones zone n entry entries leads one other number are lead is =
    let offers : List Offer = one ∷ other ∷ [] in
    let r : Reach = reach zone in
    let first = led_to r n entries leads one.at is.first is.first_is.number are is.first_is is.first_is.known in
    let second = led_to r n entries leads other.at is.second is.second_is.number are is.second_is is.second_is.known in
    let a : ℕ = is.first.distance + one.asks in
    let b : ℕ = is.second.distance + other.asks in
    let reached : total_towards r one ≡ Some a = ap (λ d. total_with d one.asks) first.far in
    let other_reached : total_towards r other ≡ Some b = ap (λ d. total_with d other.asks) second.far in
    let of_first = λ (less : a ≤ b). is.best.of_first less ∙ is.first_is.known in
    let of_second = λ (less : b ≤ a). is.best.of_second less ∙ is.second_is.known in
    elim (cases_lt a b) [
      | inl less ↦
          let best : BestAt = record { cost = a; at = one.at; alone = true } in
          let here = best_of_two r one other a b best reached other_reached (kept less refl) in
          subst (IsNumberOf entry entries) (sym (of_first (omega arith)))
          (best_number reach zones zone n entry entries offers best is.first_is.number lead here (alike_alone r offers n best here refl) first.entry)
      | inr no_less ↦ elim (cases_lt b a) [
        | inl less ↦
            let best : BestAt = record { cost = b; at = other.at; alone = true } in
            let here = best_of_two r one other a b best reached other_reached (lower less refl) in
            subst (IsNumberOf entry entries) (sym (of_second (omega arith)))
            (best_number reach zones zone n entry entries offers best is.second_is.number lead here (alike_alone r offers n best here refl) second.entry)
        | inr also ↦
            let best : BestAt = record { cost = a; at = one.at; alone = false } in
            let here = best_of_two r one other a b best reached other_reached (both (omega arith) refl refl (λ no. absurd (false≢true no))) in
            let same : is.second_is.number ≡ is.first_is.number =
            same_Some is.second_is.number is.first_is.number (sym (of_second (omega arith)) ∙ of_first (omega arith)) in
            subst (IsNumberOf entry entries) (sym (of_first (omega arith)))
            (best_number reach zones zone n entry entries offers best is.first_is.number lead here
            (alike_both r one other n best (get_or entries is.first_is.number Discard) refl first.entry.is
            (subst (λ (k : ℕ). IsEntryTo r other.at n (get_or entries k Discard)) same second.entry.is)) first.entry)
      ]
    ]

-- what the leads to one offer tell is the number of the entry
told_of_one : (reach : ℕ → Reach) (zones zone n : ℕ) (entry : Entry → Type 0) (entries : List Entry) (leads : List Lead) (at : ℕ) (lead : Lead) →
    AreLeadsTo (reach zone) n entries leads →
    LeadToBest (reach zone) zone n (IsRouteFor reach zones n entry) (record { at = at; asks = 0 } ∷ []) → IsLeadAt leads at lead →
    IsNumberOf entry entries lead.number
told_of_one reach zones zone n entry entries leads at lead are routes is =
    let offer : Offer = record { at = at; asks = 0 } in
    let r : Reach = reach zone in
    let to = led_to r n entries leads at lead is.number are is is.known in
    let best : BestAt = record { cost = lead.distance + 0; at = at; alone = true } in
    let here = first_more r [] offer best (ap (λ d. total_with d 0) to.far) refl (best_of_none r) in
    subst (IsNumberOf entry entries) (sym is.known)
    (best_number reach zones zone n entry entries (offer ∷ []) best is.number routes here (alike_alone r (offer ∷ []) n best here refl) to.entry)

-- what the leads tell is the number of the entry whose route is decided
pub told_number : (reach : ℕ → Reach) (zones zone n u : ℕ) (entry : Entry → Type 0) (entries : List Entry) (leads : List Lead) (decision : Decision)
    (number : Option ℕ) → AreLeads (reach zone) u n entries leads →
    DecidesRoute u entry (LeadToBest (reach zone) zone n (IsRouteFor reach zones n entry)) decision → IsTold leads u decision number →
    IsNumberOf entry entries number
told_number reach zones zone n u entry entries leads _ _ are decides told_nothing = decides
told_number reach zones zone n u entry entries leads _ _ are decides (told_nothing_but one other first second) = decides first second
told_number reach zones zone n u entry entries leads _ _ are decides (told_one at lead is) =
    told_of_one reach zones zone n entry entries leads at lead are.each
    (decides (led_apart (reach zone) u n entries leads at lead are is)) is
told_number reach zones zone n u entry entries leads _ _ are decides (told_best one other number is) =
    told_of_two reach zones zone n entry entries leads one other number are.each
    (decides (led_apart (reach zone) u n entries leads one.at is.first are is.first_is)
    (led_apart (reach zone) u n entries leads other.at is.second are is.second_is)) is

-- the first hops towards the vertices of two offers that cost the same are those towards the best of both
level_hops : (reach : Reach) (one other : Offer) (n cost : ℕ) (hops : List ℕ) → total_towards reach one ≡ Some cost →
    total_towards reach other ≡ Some cost → AreHopsToEither reach (record { one = one.at; other = other.at }) n hops →
    AreHopsTowards reach (one ∷ other ∷ []) cost n hops
level_hops reach one other n cost hops first second are = record {
  ascending = are.ascending;
  exact = λ h. (
    λ has. let to = (are.exact h).0 has in (
      to.0,
      elim to.1 [
        | inl hop ↦ record { offer = one; among = Contains-append_left (one ∷ []) (other ∷ []) one (Contains-push [] one); total = first; hop = hop }
        | inr hop ↦ record { offer = other; among = Contains-push (one ∷ []) other; total = second; hop = hop }
      ],
    ),
    λ to. (are.exact h).1 (
      to.0,
      elim (Contains-push_cases (one ∷ []) other to.1.offer to.1.among) [
        | inl earlier ↦ inl (subst (λ (o : Offer). HasHop reach o.at h) (the_one one to.1.offer earlier) to.1.hop)
        | inr same ↦ inr (subst (λ (o : Offer). HasHop reach o.at h) (sym same) to.1.hop)
      ],
    ),
  );
}

-- the number of the entry over the hops towards two offers that decide and cost the same is that of the router's entry
level_number : (reach : ℕ → Reach) (zones zone n u : ℕ) (entry : Entry → Type 0) (entries after : List Entry) (leads : List Lead) (decision : Decision)
    (makers : TwoMakers) (number : ℕ) → AreLeads (reach zone) u n entries leads →
    DecidesRoute u entry (LeadToBest (reach zone) zone n (IsRouteFor reach zones n entry)) decision → AreLevelMakers leads decision makers →
    HasNumber (IsEntryToEither (reach zone) makers n) after number → HasNumber entry after number
level_number reach zones zone n u entry entries after leads decision makers number are decides level has =
    let r : Reach = reach zone in
    let one : Offer = level.one in
    let other : Offer = level.other in
    let is = level.level in
    let cost : ℕ = is.first.distance + one.asks in
    let lead : LeadToBest r zone n (IsRouteFor reach zones n entry) (one ∷ other ∷ []) =
    subst (λ (d : Decision). DecidesRoute u entry (LeadToBest r zone n (IsRouteFor reach zones n entry)) d) level.is decides
    (led_apart r u n entries leads one.at is.first are is.first_is) (led_apart r u n entries leads other.at is.second are is.second_is) in
    let first = led_to r n entries leads one.at is.first is.first_is.number are.each is.first_is is.first_is.known in
    let second = led_to r n entries leads other.at is.second is.second_is.number are.each is.second_is is.second_is.known in
    let reached : total_towards r one ≡ Some cost = ap (λ d. total_with d one.asks) first.far in
    let other_reached : total_towards r other ≡ Some cost = ap (λ d. total_with d other.asks) second.far ∙ ap (λ (k : ℕ). Some k) (sym is.same) in
    let best : BestAt = record { cost = cost; at = one.at; alone = false } in
    let here = best_of_two r one other cost cost best reached other_reached (both refl refl refl (λ no. absurd (false≢true no))) in
    let to : IsEntryToEither r (record { one = one.at; other = other.at }) n (get_or after number Discard) =
    subst (λ (m : TwoMakers). IsEntryToEither r m n (get_or after number Discard)) level.makers_are has.is in
    let towards = level_hops r one other n cost to.hops reached other_reached to.are in
    let route = lead.through to.hops (record { cost = cost; best = here.best_total; towards = towards }) in
    record { below = has.below; is = route.makes (get_or after number Discard) to.is }

-- the same by the walks that are known
pub level_number_by : {W : Type 0} (found : Option W) (now : W → Reach) (walks : W) (reach : ℕ → Reach) (zones zone n u : ℕ) (entry : Entry → Type 0)
    (entries after : List Entry) (leads : List Lead) (decision : Decision) (makers : TwoMakers) (number : Option ℕ) → found ≡ Some walks →
    IfSome found (λ known. now known ≡ reach zone) → AreLeads (reach zone) u n entries leads →
    DecidesRoute u entry (LeadToBest (reach zone) zone n (IsRouteFor reach zones n entry)) decision → AreLevelMakers leads decision makers →
    HasSomeNumber (IsEntryToEither (now walks) makers n) after number → IsNumberOf entry after number
level_number_by found now walks reach zones zone n u entry entries after leads decision makers None is known are decides level none = absurd none
level_number_by found now walks reach zones zone n u entry entries after leads decision makers (Some number) is known are decides level has =
    level_number reach zones zone n u entry entries after leads decision makers number are decides level
    (subst (λ (r : Reach). HasNumber (IsEntryToEither r makers n) after number)
    (subst (λ f. IfSome f (λ w. now w ≡ reach zone)) is known) has)

-- What is missed

-- a vertex to which there is a lead to what isn't reached isn't reached
far_at : (reach : Reach) (n : ℕ) (entries : List Entry) (leads : List Lead) (u at : ℕ) → AreLeads reach u n entries leads → IsFarAt leads at →
    IsBeyond reach u at
far_at reach n entries leads u at are is = record {
  other = λ same.
      let none : far_lead ≡ no_lead = sym is.is ∙ sym (ap (λ (v : ℕ). get_or leads v no_lead) same) ∙ are.own in
      let here = ap (λ (l : Lead). l.distance) none in
      absurd (omega (arith, here));
  unreached = (are.each at is.within).far is.is;
}

-- offers that the leads miss are missed
missed : (reach : Reach) (n : ℕ) (entries : List Entry) (leads : List Lead) (u : ℕ) (decision : Decision) → AreLeads reach u n entries leads →
    AreMissed leads decision → MissesOffers reach u decision
missed reach n entries leads u decision are is = grind (arith, common_steps, far_at)

-- what the leads over the zone behind tell is the number of the entry whose route is decided there
pub told_number_behind : (routes : ProtocolRoutes) (zone behind u : ℕ) (p : Block) (entries : List Entry) (first other : List Lead) (decisions : Behind)
    (number : Option ℕ) → AreLeads (routes.reach u zone) u routes.routers entries first →
    AreLeads (routes.reach u behind) u routes.routers entries other →
    DecidesBeyond routes (routes.reach u zone) behind u p decisions → IsToldBeyond first other u decisions number →
    IsNumberOf (routes.entry u p) entries number
told_number_behind routes zone behind u p entries first other decisions number are others decides is =
    grind (arith, common_steps, missed, told_number)
