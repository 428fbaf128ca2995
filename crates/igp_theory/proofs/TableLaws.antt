-- Both protocols' tables: one entry for a prefix, whose hops are neighbors.
use Rattle.std.proofs.lemmas.Grind.{common_steps}
use Rattle.std.proofs.Common.{◌≡◌, ℕ, suc, ◌<◌, ◌↔◌, ◌⊎◌, inl, inr, Bool, true, false, ◌==◌, List, [], ◌∷◌, Contains}
use Rattle.std.proofs.Common.{refl, sym, ◌∙◌, ap, subst, arith}
use Rattle.std.specs.List.{AllPairs}
use Rattle.std.proofs.lemmas.List.Kept.{AllPairs-from_increasing}
use Rattle.std.proofs.lemmas.List.Elements.{All-contains}
use Rattle.std.proofs.lemmas.Bool.{eqb-true, eqb-false}
use Rattle.net_addr.specs.Addresses.{Block}
use Rattle.net_model.specs.Network.{Network, Connected, IsBorderRouter, InArea, Adjacent}
use Rattle.net_model.specs.declared.zone.Zone.TheVariants.{Area}
use Rattle.walk_core.specs.Walks.{Arcs, Leg, LeastWalk, LeastCost, FirstHop}
use Rattle.walk_core.specs.Offers.{Offers, BestCost, BestHop}
use Rattle.walk_core.proofs.WalkLaws.{SameOffers, same_offers_sym, best_cost_over, best_cost_unique, best_hop_is_arc}
use Rattle.route_core.specs.Hops.{AreHops}
use Rattle.route_core.specs.declared.entry.Entry.{Entry}
use Rattle.route_core.specs.declared.entry.Entry.TheVariants.{Via, Discard}
use Rattle.igp_theory.specs.Isis.{RunsLevelTwo, OffersLevelOne, LevelOneHop, LevelTwoHop, DownHop, DefaultCost, DefaultHop}
use Rattle.igp_theory.specs.Isis.{HasLevelOneRoute, HasLevelTwoRoute, HasDownRoute, IsisEntry, level_one, level_two}
use Rattle.igp_theory.specs.Isis.{down, default_route}
use Rattle.igp_theory.specs.Laws.{KeepsOneArea, IsOspfNeighbor, IsIsisNeighbor, Forwards}
use Rattle.igp_theory.specs.Ospf.{OffersSubnet, OfOthers, BackboneSummary, BorderCost, Summary, into_backbone, into_area, IntraAreaCost, IntraAreaHop}
use Rattle.igp_theory.specs.Ospf.{IsIntraArea, ListensTo, backbone, one_area, InterAreaCost, InterAreaHop, OspfEntry, intra_area, discard, inter_area}
use Rattle.igp_theory.specs.Routes.{ForwardsTo, EntryLeadsTo}

-- Ascending lists

-- what a list contains is its first element or in the rest
contains_cases : (x : ℕ) (xs : List ℕ) (h : ℕ) → Contains (x ∷ xs) h → (x ≡ h) ⊎ Contains xs h
contains_cases x xs h it_3 = grind (arith, common_steps)

contains_more : (x : ℕ) (xs : List ℕ) (h : ℕ) → Contains xs h → Contains (x ∷ xs) h
contains_more x xs h (k, within, at) = (suc k, omega arith, at)

-- the first number of an ascending list is below the others
first_below : (x : ℕ) (xs : List ℕ) → AllPairs (λ a b. a < b) (x ∷ xs) → (h : ℕ) → Contains xs h → x < h
first_below x xs pairs h inside =
    All-contains (λ b. x < b) xs h (λ k d within. pairs 0 (suc k) d (omega arith) (omega arith)) inside

rest_ascends : (x : ℕ) (xs : List ℕ) → AllPairs (λ a b. a < b) (x ∷ xs) → AllPairs (λ a b. a < b) xs
rest_ascends x xs pairs i j d before within = pairs (suc i) (suc j) d (omega arith) (omega arith)

-- ascending lists of the same numbers begin alike
same_first : (x : ℕ) (xs : List ℕ) (y : ℕ) (ys : List ℕ) → AllPairs (λ a b. a < b) (x ∷ xs) →
    AllPairs (λ a b. a < b) (y ∷ ys) →
    ((h : ℕ) → Contains (x ∷ xs) h ↔ Contains (y ∷ ys) h) → x ≡ y
same_first x xs y ys one other same =
    let there : Contains (y ∷ ys) x = (same x).0 (0, omega arith, refl) in
    let here : Contains (x ∷ xs) y = (same y).1 (0, omega arith, refl) in
    elim (contains_cases y ys x there) [
      | inl e ↦ sym e
      | inr in_ys ↦ elim (contains_cases x xs y here) [
        | inl e ↦ e
        | inr in_xs ↦
            let down : y < x = first_below y ys other x in_ys in
            let up : x < y = first_below x xs one y in_xs in
            omega arith
      ]
    ]

-- a number of the rest is in the other list's rest, where both begin alike
in_rest : (x : ℕ) (xs : List ℕ) (y : ℕ) (ys : List ℕ) → AllPairs (λ a b. a < b) (x ∷ xs) → x ≡ y →
    ((h : ℕ) → Contains (x ∷ xs) h → Contains (y ∷ ys) h) → (h : ℕ) → Contains xs h → Contains ys h
in_rest x xs y ys one begins over h inside =
    elim (contains_cases y ys h (over h (contains_more x xs h inside))) [
      | inl e ↦ let up : x < h = first_below x xs one h inside in absurd (omega arith)
      | inr rest ↦ rest
    ]

-- ascending lists of the same numbers are the same
same_ascending : (xs ys : List ℕ) → AllPairs (λ a b. a < b) xs → AllPairs (λ a b. a < b) ys →
    ((h : ℕ) → Contains xs h ↔ Contains ys h) → xs ≡ ys
same_ascending [] [] one other same = refl
same_ascending [] (y ∷ ys) one other same =
    let none : Contains {X = ℕ} [] y = (same y).1 (0, omega arith, refl) in absurd (omega (arith, none.1))
same_ascending (x ∷ xs) [] one other same =
    let none : Contains {X = ℕ} [] x = (same x).0 (0, omega arith, refl) in absurd (omega (arith, none.1))
same_ascending (x ∷ xs) (y ∷ ys) one other same =
    let begins : x ≡ y = same_first x xs y ys one other same in
    let rest : xs ≡ ys = same_ascending xs ys (rest_ascends x xs one) (rest_ascends y ys other)
    (λ h. (in_rest x xs y ys one begins (λ k. (same k).0) h, in_rest y ys x xs other (sym begins) (λ k. (same k).1) h)) in
    cc

-- the hops of a route are one list
pub hops_unique : {hop : ℕ → Type 0} {one other : List ℕ} → AreHops hop one → AreHops hop other →
    one ≡ other
hops_unique {hop} {one} {other} first second =
    same_ascending one other (AllPairs-from_increasing one first.ascending)
    (AllPairs-from_increasing other second.ascending)
    (λ h. (λ inside. (second.exact h).1 ((first.exact h).0 inside), λ inside. (first.exact h).1 ((second.exact h).0 inside)))

-- Entries of a route

-- a route has one entry
pub forwarding_entry_unique : (hop : ℕ → Type 0) (e f : Entry) → ForwardsTo hop e → ForwardsTo hop f →
    e ≡ f
forwarding_entry_unique hop (Via one) (Via other) first second = ap Via (hops_unique first second)
forwarding_entry_unique hop (Via one) Discard first second = absurd second
forwarding_entry_unique hop Discard f first second = absurd first

-- the entry of a route leads to its hops alone
pub entry_leads_to_hop : (hop : ℕ → Type 0) (e : Entry) (h : ℕ) → ForwardsTo hop e → EntryLeadsTo e h →
    hop h
entry_leads_to_hop hop (Via hops) h forwards leads = (forwards.exact h).0 leads
entry_leads_to_hop hop Discard h forwards leads = absurd leads

-- the entry of a route leads to each of its hops
pub hop_is_led_to : (hop : ℕ → Type 0) (e : Entry) (h : ℕ) → ForwardsTo hop e → hop h → EntryLeadsTo e h
hop_is_led_to hop (Via hops) h forwards is_hop = (forwards.exact h).1 is_hop
hop_is_led_to hop Discard h forwards is_hop = absurd forwards

-- Costs

-- in a network that keeps one area for each subnet the intra-area routes of a prefix are of one area
pub intra_area_unique : {net : Network} {p : Block} {u v m n c d : ℕ} → KeepsOneArea net →
    IntraAreaCost net m p u c → IntraAreaCost net n p v d → m ≡ n
intra_area_unique {net} {p} {u} {v} {m} {n} keeps one other =
    let here = one.best.attained.offered in
    let there = other.best.attained.offered in
    keeps one.best.at other.best.at here.interface there.interface p m n here.up there.up here.subnet there.subnet here.area there.area

-- and a prefix has one intra-area cost at a router
pub intra_area_cost_unique : {net : Network} {p : Block} {u m n c d : ℕ} → KeepsOneArea net →
    IntraAreaCost net m p u c → IntraAreaCost net n p u d → c ≡ d
intra_area_cost_unique {net} {p} {u} {m} {n} {c} {d} keeps one other =
    let BestIn : ℕ → Type 0 = λ k. BestCost (Adjacent net (Area k)) (OffersSubnet net k p) u c in
    best_cost_unique (subst BestIn (intra_area_unique keeps one other) one.best) other.best

-- a router that is in two areas is a border router
inside_one_area : {net : Network} {u m n : ℕ} → (IsBorderRouter net u → ⊥) → InArea net u m → InArea net u n →
    (b : Bool) → (m == n) ≡ b → m ≡ n
inside_one_area {net} {u} {m} {n} inner in_m in_n true same = eqb-true m n same
inside_one_area {net} {u} {m} {n} inner in_m in_n false apart =
    absurd (inner (record { one = m; other = n; apart = eqb-false m n apart; in_one = in_m; in_other = in_n }))

-- a router listens to one area
pub listens_to_one_area : {net : Network} {u m n : ℕ} → ListensTo net u m → ListensTo net u n → m ≡ n
listens_to_one_area (backbone border) (backbone again) = refl
listens_to_one_area (backbone border) (one_area inner in_n) = absurd (inner border)
listens_to_one_area (one_area inner in_m) (backbone border) = absurd (inner border)
listens_to_one_area {m = m} {n = n} (one_area inner in_m) (one_area again in_n) = inside_one_area inner in_m in_n (m == n) refl

-- a prefix has one inter-area cost at a router
pub inter_area_cost_unique : {net : Network} {p : Block} {u c d : ℕ} → InterAreaCost net p u c →
    InterAreaCost net p u d → c ≡ d
inter_area_cost_unique {net} {p} {u} {c} {d} one other =
    let BestIn : ℕ → Type 0 = λ k. BestCost (Adjacent net (Area k)) (OfOthers (Summary net p k) u) u c in
    best_cost_unique (subst BestIn (listens_to_one_area one.listens other.listens) one.best) other.best

-- what is announced into area 0 is what is announced into the backbone
backbone_summary : {net : Network} {p : Block} {n b c : ℕ} → Summary net p n b c → n ≡ 0 → BackboneSummary net p b c
backbone_summary (into_backbone summary) is = summary
backbone_summary (into_area other summary) is = absurd (other is)

same_summaries : (net : Network) (p : Block) (u : ℕ) →
    SameOffers (OfOthers (BackboneSummary net p) u) (OfOthers (Summary net p 0) u)
same_summaries net p u b c = (
  λ offer. record { other = offer.other; offered = into_backbone offer.offered },
  λ offer. record { other = offer.other; offered = backbone_summary offer.offered refl },
)

-- at a border router the inter-area cost over the backbone is its inter-area cost
pub border_cost_is_inter_area : {net : Network} {p : Block} {u c : ℕ} → BorderCost net p u c → InterAreaCost net p u c
border_cost_is_inter_area {net} {p} {u} costs = record {
  no_intra = costs.no_intra;
  no_range = costs.no_range;
  area = 0;
  listens = backbone costs.border;
  best = best_cost_over (λ a b c. (λ arc. arc, λ arc. arc)) (same_summaries net p u) costs.best;
}

pub inter_area_is_border_cost : {net : Network} {p : Block} {u c : ℕ} → IsBorderRouter net u → InterAreaCost net p u c →
    BorderCost net p u c
inter_area_is_border_cost {net} {p} {u} {c} border costs =
    let BestIn : ℕ → Type 0 = λ k. BestCost (Adjacent net (Area k)) (OfOthers (Summary net p k) u) u c in
    let best : BestIn 0 = subst BestIn (listens_to_one_area costs.listens (backbone border)) costs.best in
    record {
      border = border;
      no_intra = costs.no_intra;
      no_range = costs.no_range;
      best = best_cost_over (λ a b c. (λ arc. arc, λ arc. arc)) (same_offers_sym (same_summaries net p u)) best;
    }

-- One entry for a prefix

pub ospf_entry_unique : {net : Network} {u : ℕ} {p : Block} {e f : Entry} → OspfEntry net u p e →
    OspfEntry net u p f → e ≡ f
ospf_entry_unique {net} {u} {p} {e} {f} (intra_area _ is one) (intra_area _ again other) =
    forwarding_entry_unique (IntraAreaHop net p u) e f one other
ospf_entry_unique (intra_area _ is one) (discard _ none active other) = absurd (none is)
ospf_entry_unique (intra_area _ is one) (inter_area _ cost route other) = absurd (route.no_intra is)
ospf_entry_unique (discard _ none active one) (intra_area _ is other) = absurd (none is)
ospf_entry_unique (discard _ none active one) (discard _ again still other) = one ∙ sym other
ospf_entry_unique (discard _ none active one) (inter_area _ cost route other) = absurd (route.no_range active)
ospf_entry_unique (inter_area _ cost route one) (intra_area _ is other) = absurd (route.no_intra is)
ospf_entry_unique (inter_area _ cost route one) (discard _ none active other) = absurd (route.no_range active)
ospf_entry_unique {net} {u} {p} {e} {f} (inter_area _ cost route one) (inter_area _ c again other) =
    forwarding_entry_unique (InterAreaHop net p u) e f one other

pub isis_entry_unique : {net : Network} {u : ℕ} {p : Block} {e f : Entry} → IsisEntry net u p e →
    IsisEntry net u p f → e ≡ f
isis_entry_unique {net} {u} {p} {e} {f} (level_one _ is one) (level_one _ again other) =
    forwarding_entry_unique (LevelOneHop net p u) e f one other
isis_entry_unique (level_one _ is one) (level_two _ none two other) = absurd (none is)
isis_entry_unique (level_one _ is one) (down _ none no_two route other) = absurd (none is)
isis_entry_unique (level_one _ is one) (default_route _ none no_two no_down all cost route other) = absurd (none is)
isis_entry_unique (level_two _ none two one) (level_one _ is other) = absurd (none is)
isis_entry_unique {net} {u} {p} {e} {f} (level_two _ none two one) (level_two _ again still other) =
    forwarding_entry_unique (LevelTwoHop net p u) e f one other
isis_entry_unique (level_two _ none two one) (down _ without_level_one no_two route other) = absurd (no_two two)
isis_entry_unique (level_two _ none two one) (default_route _ without_level_one no_two no_down all cost route other) = absurd (no_two two)
isis_entry_unique (down _ without_level_one no_two route one) (level_one _ is other) = absurd (without_level_one is)
isis_entry_unique (down _ without_level_one no_two route one) (level_two _ none two other) = absurd (no_two two)
isis_entry_unique {net} {u} {p} {e} {f} (down _ without_level_one no_two route one) (down _ no_1 no_2 again other) =
    forwarding_entry_unique (DownHop net p u) e f one other
isis_entry_unique (down _ without_level_one no_two route one) (default_route _ no_1 no_2 no_down all cost far other) = absurd (no_down route)
isis_entry_unique (default_route _ without_level_one no_two no_down all cost route one) (level_one _ is other) = absurd (without_level_one is)
isis_entry_unique (default_route _ without_level_one no_two no_down all cost route one) (level_two _ none two other) = absurd (no_two two)
isis_entry_unique (default_route _ without_level_one no_two no_down all cost route one) (down _ no_1 no_2 again other) = absurd (no_down again)
isis_entry_unique {net} {u} {p} {e} {f} (default_route _ without_level_one no_two no_down all cost route one)
    (default_route _ no_1 no_2 no_3 same c again other) =
    forwarding_entry_unique (DefaultHop net u) e f one other

-- Hops are neighbors

pub ospf_hop_is_neighbor : {net : Network} {u h : ℕ} {p : Block} {e : Entry} → OspfEntry net u p e →
    EntryLeadsTo e h → IsOspfNeighbor net u h
ospf_hop_is_neighbor {net} {u} {h} {p} {e} (intra_area _ is forwards) leads =
    let hop : IntraAreaHop net p u h = entry_leads_to_hop (IntraAreaHop net p u) e h forwards leads in
    let arc = best_hop_is_arc hop.best in
    record { area = hop.area; cost = arc.0; adjacent = arc.1 }
ospf_hop_is_neighbor {net} {u} {h} {p} {e} (discard _ none active is) leads =
    let To : Entry → Type 0 = λ x. EntryLeadsTo x h in absurd (subst To is leads)
ospf_hop_is_neighbor {net} {u} {h} {p} {e} (inter_area _ cost route forwards) leads =
    let hop : InterAreaHop net p u h = entry_leads_to_hop (InterAreaHop net p u) e h forwards leads in
    let arc = best_hop_is_arc hop.best in
    record { area = hop.area; cost = arc.0; adjacent = arc.1 }

pub isis_hop_is_neighbor : {net : Network} {u h : ℕ} {p : Block} {e : Entry} → IsisEntry net u p e →
    EntryLeadsTo e h → IsIsisNeighbor net u h
isis_hop_is_neighbor {net} {u} {h} {p} {e} (level_one _ is forwards) leads =
    let hop : LevelOneHop net p u h = entry_leads_to_hop (LevelOneHop net p u) e h forwards leads in
    let arc = best_hop_is_arc hop.best in
    record { cost = arc.0; adjacent = inl arc.1 }
isis_hop_is_neighbor {net} {u} {h} {p} {e} (level_two _ none two forwards) leads =
    let hop : LevelTwoHop net p u h = entry_leads_to_hop (LevelTwoHop net p u) e h forwards leads in
    let arc = best_hop_is_arc hop.best in
    record { cost = arc.0; adjacent = inr arc.1 }
isis_hop_is_neighbor {net} {u} {h} {p} {e} (down _ none no_two route forwards) leads =
    let hop : DownHop net p u h = entry_leads_to_hop (DownHop net p u) e h forwards leads in
    let arc = best_hop_is_arc hop.best in
    record { cost = arc.0; adjacent = inl arc.1 }
isis_hop_is_neighbor {net} {u} {h} {p} {e} (default_route _ none no_two no_down all cost route forwards) leads =
    let hop : DefaultHop net u h = entry_leads_to_hop (DefaultHop net u) e h forwards leads in
    let arc = best_hop_is_arc hop.best in
    record { cost = arc.0; adjacent = inl arc.1 }

-- Entries forward

-- a least walk to another router has a first hop
first_hop_of_walk : {arc : Arcs} {u v : ℕ} → (u ≡ v → ⊥) → (legs : List Leg) → LeastWalk arc u legs v →
    (h : ℕ) × FirstHop arc u v h
first_hop_of_walk other [] walk = absurd (other walk.leads)
first_hop_of_walk other (leg ∷ legs) walk =
    (leg.to, record { leg = leg; legs = legs; walk = walk; begins = refl })

pub first_hop_of_least : {arc : Arcs} {u v d : ℕ} → (u ≡ v → ⊥) → LeastCost arc u v d →
    (h : ℕ) × FirstHop arc u v h
first_hop_of_least other least = first_hop_of_walk other least.legs least.walk

-- a best cost that is attained at another router has a hop
pub best_hop_of_cost : {arc : Arcs} {offer : Offers} {u c : ℕ} (best : BestCost arc offer u c) →
    (u ≡ best.at → ⊥) → (h : ℕ) × BestHop arc offer u h
best_hop_of_cost {arc} {offer} {u} {c} best other =
    let first = first_hop_of_least other best.attained.reached in
    (first.0, record { cost = c; best = best; at = best.at; attained = best.attained; hop = first.1 })

-- where some route has a hop, its entry forwards
forwards_by_hop : (hop : ℕ → Type 0) (e : Entry) (h : ℕ) → ForwardsTo hop e → hop h → Forwards e
forwards_by_hop hop e h forwards is_hop = (h, hop_is_led_to hop e h forwards is_hop)

-- who offers a subnet is connected to it
subnet_is_connected : {net : Network} {n w c : ℕ} {p : Block} → OffersSubnet net n p w c → Connected net w p
subnet_is_connected offers = record { interface = offers.interface; up = offers.up; subnet = offers.subnet }

one_is_connected : {net : Network} {w c : ℕ} {p : Block} → OffersLevelOne net p w c → Connected net w p
one_is_connected offers = record { interface = offers.interface; up = offers.up; subnet = offers.subnet }

-- an intra-area route to a prefix that isn't connected has a hop
intra_area_has_hop : {net : Network} {p : Block} {u : ℕ} → (Connected net u p → ⊥) → IsIntraArea net p u →
    (h : ℕ) × IntraAreaHop net p u h
intra_area_has_hop {net} {p} {u} away is =
    let At : ℕ → Type 0 = λ w. Connected net w p in
    let best = is.costs.best in
    let hop = best_hop_of_cost best (λ same. away (subst At (sym same) (subnet_is_connected best.attained.offered))) in
    (hop.0, record { area = is.area; inside = is.costs.inside; best = hop.1 })

inter_area_has_hop : {net : Network} {p : Block} {u c : ℕ} → InterAreaCost net p u c →
    (h : ℕ) × InterAreaHop net p u h
inter_area_has_hop {net} {p} {u} {c} costs =
    let hop = best_hop_of_cost costs.best (λ same. costs.best.attained.offered.other (sym same)) in
    (hop.0, record { area = costs.area; listens = costs.listens; best = hop.1 })

one_has_hop : {net : Network} {p : Block} {u : ℕ} → (Connected net u p → ⊥) → HasLevelOneRoute net p u →
    (h : ℕ) × LevelOneHop net p u h
one_has_hop {net} {p} {u} away is =
    let At : ℕ → Type 0 = λ w. Connected net w p in
    let best = is.costs.best in
    let hop = best_hop_of_cost best (λ same. away (subst At (sym same) (one_is_connected best.attained.offered))) in
    (hop.0, record { runs = is.costs.runs; best = hop.1 })

two_has_hop : {net : Network} {p : Block} {u : ℕ} → HasLevelTwoRoute net p u → (h : ℕ) × LevelTwoHop net p u h
two_has_hop {net} {p} {u} is =
    let best = is.costs.best in
    let hop = best_hop_of_cost best (λ same. best.attained.offered.other (sym same)) in
    (hop.0, record { runs = is.costs.runs; best = hop.1 })

down_has_hop : {net : Network} {p : Block} {u : ℕ} → HasDownRoute net p u → (h : ℕ) × DownHop net p u h
down_has_hop {net} {p} {u} is =
    let best = is.costs.best in
    let hop = best_hop_of_cost best (λ same. best.attained.offered.other (sym same)) in
    (hop.0, record { runs = is.costs.runs; best = hop.1 })

-- a router that runs level 1 alone isn't attached
default_has_hop : {net : Network} {u c : ℕ} → DefaultCost net u c → (h : ℕ) × DefaultHop net u h
default_has_hop {net} {u} {c} costs =
    let Runs : ℕ → Type 0 = λ w. RunsLevelTwo net w in
    let hop = best_hop_of_cost costs.best (λ same. costs.alone (subst Runs (sym same) costs.best.attained.offered.attached.runs_level_two)) in
    (hop.0, record { runs = costs.runs; alone = costs.alone; best = hop.1 })

pub ospf_entry_forwards : {net : Network} {u : ℕ} {p : Block} {e : Entry} → OspfEntry net u p e →
    Forwards e ⊎ (e ≡ Discard)
ospf_entry_forwards {net} {u} {p} {e} (intra_area away is forwards) =
    let hop = intra_area_has_hop away is in
    inl (forwards_by_hop (IntraAreaHop net p u) e hop.0 forwards hop.1)
ospf_entry_forwards (discard _ none active is) = inr is
ospf_entry_forwards {net} {u} {p} {e} (inter_area _ cost route forwards) =
    let hop = inter_area_has_hop route in
    inl (forwards_by_hop (InterAreaHop net p u) e hop.0 forwards hop.1)

pub isis_entry_forwards : {net : Network} {u : ℕ} {p : Block} {e : Entry} → IsisEntry net u p e → Forwards e
isis_entry_forwards {net} {u} {p} {e} (level_one away is forwards) =
    let hop = one_has_hop away is in forwards_by_hop (LevelOneHop net p u) e hop.0 forwards hop.1
isis_entry_forwards {net} {u} {p} {e} (level_two _ none two forwards) =
    let hop = two_has_hop two in forwards_by_hop (LevelTwoHop net p u) e hop.0 forwards hop.1
isis_entry_forwards {net} {u} {p} {e} (down _ none no_two route forwards) =
    let hop = down_has_hop route in forwards_by_hop (DownHop net p u) e hop.0 forwards hop.1
isis_entry_forwards {net} {u} {p} {e} (default_route _ none no_two no_down all cost route forwards) =
    let hop = default_has_hop route in forwards_by_hop (DefaultHop net u) e hop.0 forwards hop.1
