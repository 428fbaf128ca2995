-- Components and active ranges.
use Rattle.std.proofs.lemmas.Grind.{common_steps}
use Rattle.std.proofs.Common.{◌-◌, ◌/◌, ◌^◌}
use Rattle.std.proofs.Common.{◌≡◌, ℕ, ◌<◌, ◌≤◌, ◌↔◌, ◌⊎◌, inl, inr, ⊎_elim, List, [], ◌∷◌, ◌++◌, length, get_or, Option, Some, None, MatchOption, true}
use Rattle.std.proofs.Common.{false, refl, sym, ap, subst, ◌∙◌, arith}
use Rattle.std.specs.List.{Contains, Any, All}
use Rattle.std.proofs.lemmas.Bool.{cases_eq, cases_lt, false≢true}
use Rattle.std.proofs.lemmas.Option.{none-some, same_Some}
use Rattle.std.proofs.lemmas.List.Elements.{Contains-append_cases, Contains-append_left, Contains-append_right, Contains-push}
use Rattle.std.proofs.lemmas.List.Elements.{Contains-push_cases, Contains-get_or, All-contains}
use Rattle.std.specs.Option.{IsSome}
use Rattle.net_addr.specs.Addresses.{Block, Covers, IsBlock, first_bits}
use Rattle.std.proofs.lemmas.Nat.{shr-shr}
use Rattle.net_model.proofs.Adjacency.{HasConfiguration-unique}
use Rattle.net_model.proofs.Members.{Contains-map}
use Rattle.net_model.proofs.NetworkFacts.{InArea-within}
use Rattle.net_model.specs.Configuration.{Configuration}
use Rattle.net_model.specs.Network.{Network, HasConfiguration, IsBorderRouter}
use Rattle.net_model.specs.declared.area.Range.{Range}
use Rattle.igp_theory.specs.Ospf.{IntraAreaCost, HasRange, IsComponent, IsActive, IsActiveRange, IsCompatible, RangeCost, stated, least, greatest}
use Rattle.ospf_routes.specs.steps.Candidates.{IsOspfCandidate, subnet}
use Rattle.ospf_routes.specs.steps.Destinations.{ospf_prefixes}
use Rattle.ospf_routes.specs.Lists.{Exactly, Adds}
use Rattle.ospf_routes.specs.steps.Ranges.{IsLonger, IsOuterRange, HasComponentCost, IsComponentOfSome, IsCoveredAt, IsPicked, IsActiveAt}
use Rattle.ospf_routes.specs.steps.Ranges.{HasActive, AreActiveRanges, AreRangesAround, AreRangesBelow, HoldRanges}
use Rattle.ospf_routes.specs.declared.intra_area.Destination.{Destination}
use Rattle.ospf_routes.specs.declared.ranges.ActiveRange.{ActiveRange}
use Rattle.ospf_routes.specs.declared.ranges.OuterRange.{OuterRange}
use Rattle.net_addr.proofs.SomeElement.{any_of, any_in}
use Rattle.route_tables.proofs.ListFacts.{exactly_same, the_one}

-- Components

-- a range of the router is one of its configuration
pub range_among : (net : Network) (b : ℕ) (config : Configuration) (given : List Range) (r : Range) → HasConfiguration net b config → given ≡ config.ranges →
    HasRange net b r → Contains given r
range_among net b config given r router are has =
    subst (λ (l : List Range). Contains l r) (sym are)
    (subst (λ (c : Configuration). Contains c.ranges r) (HasConfiguration-unique net b has.config config has.router router) has.among)

-- a range of the router, with those that are found below it among all, which are sorted
pub outer_is : (net : Network) (b : ℕ) (config : Configuration) (given sorted : List Range) (outer : OuterRange) → HasConfiguration net b config →
    IsBorderRouter net b → given ≡ config.ranges → ((r : Range) → Contains sorted r ↔ Contains given r) → Contains given outer.range.now →
    ((r : Range) → Contains outer.inner.now r → Contains sorted r) →
    ((r : Range) → Contains sorted r → Covers outer.range.now.dest r.dest → Contains outer.inner.now r) → IsOuterRange net b outer
outer_is net b config given sorted outer router border are kept own among every = record {
  has = of outer.range.now own;
  among = λ r has. of r ((kept r).0 (among r has));
  every = λ r has covers. every r ((kept r).1 (range_among net b config given r router are has)) covers;
}
  where
    of : (r : Range) → Contains given r → HasRange net b r
    of r has = record { border = border; config = config; router = router; among = subst (λ (l : List Range). Contains l r) are has }

first_bits_shorter : (short long a : ℕ) → short ≤ long → long ≤ 32 → first_bits short a ≡ first_bits long a / 2 ^ (long - short)
first_bits_shorter short long a below fits = grind (arith, common_steps, shr-shr)

-- of two blocks that cover a block, the shorter covers the longer
inner_covers : (r s p : Block) → p.len ≤ 32 → Covers r p → Covers s p → r.len ≤ s.len → Covers r s
inner_covers r s p fits over also longer =
    let short : s.len ≤ 32 = omega (arith, also.longer) in
    record {
      longer = longer;
      inside =
          first_bits_shorter r.len s.len s.base longer short
          ∙ ap (λ (m : ℕ). m / 2 ^ (s.len - r.len)) (sym also.inside)
          ∙ sym (first_bits_shorter r.len s.len p.base longer short)
          ∙ over.inside;
    }

-- what the range covers is a component, unless a longer range does
pub component_at : (net : Network) (b : ℕ) (outer : OuterRange) (p : Block) → IsOuterRange net b outer → IsBlock p →
    (Any (IsLonger outer.range.now p) outer.inner.now → ⊥) → (cost : ℕ) → IsCoveredAt net b outer.range.now p cost ↔ IsComponent net b outer.range.now p cost
component_at net b outer p are block none cost = (
  λ is. record {
    range = are.has;
    covered = is.covered;
    reached = is.reached;
    longest = λ other also area over. elim (cases_lt outer.range.now.dest.len other.dest.len) [
      | inl longer ↦ absurd (none (any_of (IsLonger outer.range.now p) outer.inner.now other
          (are.every other also (inner_covers outer.range.now.dest other.dest p block.short is.covered over (omega arith)))
          (record { area = area; covers = over; longer = longer })))
      | inr short ↦ omega arith
    ];
  },
  λ component. record { covered = component.covered; reached = component.reached },
)

-- where a longer range covers it, it is none
pub no_component : (net : Network) (b : ℕ) (outer : OuterRange) (p : Block) → IsOuterRange net b outer →
    Any (IsLonger outer.range.now p) outer.inner.now → (cost : ℕ) → IsComponent net b outer.range.now p cost → ⊥
no_component net b outer p are any cost component =
    let f = any_in (IsLonger outer.range.now p) outer.inner.now any in
    let short = component.longest f.item (are.among f.item f.among) f.holds.area f.holds.covers in
    let longer = f.holds.longer in
    omega arith

-- a prefix with an intra-area cost is a subnet
pub intra_is_candidate : (net : Network) (n : ℕ) (p : Block) (u cost : ℕ) → IntraAreaCost net n p u cost → IsOspfCandidate net p
intra_is_candidate net n p u cost costs =
    let offers = costs.best.attained.offered in
    subnet (record {
      router = costs.best.at;
      interface = offers.interface;
      up = offers.up;
      has = record { up = offers.up.up; runs = some_area offers.interface.area n offers.area; subnet = offers.subnet };
    })
  where
    some_area : (o : Option ℕ) (m : ℕ) → o ≡ Some m → IsSome o
    some_area None m is = absurd (none-some m is)
    some_area (Some k) m is = refl

-- each candidate is the prefix of a destination
pub destination_of : (net : Network) (ds : List Destination) (p : Block) → Contains (ospf_prefixes ds) p → (P : Block → Type 0) → P p →
    Any (λ (d : Destination). P d.dest) ds
destination_of net ds p has P holds =
    let given = Contains-map (λ (d : Destination). d.dest) ds p has in
    any_of (λ (d : Destination). P d.dest) ds given.item given.among (subst P (sym given.gives) holds)

-- the costs of the components, over those of the destinations that the range covers
pub components_near : (net : Network) (b : ℕ) (r : Range) (ds near : List Destination) (costs : List ℕ) →
    ((p : Block) → IsOspfCandidate net p → Contains (ospf_prefixes ds) p) →
    ((d : Destination) → Contains ds d → Covers r.dest d.dest → Contains near d) →
    Exactly (λ c. Any (λ (d : Destination). IsComponent net b r d.dest c) near) costs → Exactly (HasComponentCost net b r) costs
components_near net b r ds near costs every covered are =
    exactly_same costs (λ c. Any (λ (d : Destination). IsComponent net b r d.dest c) near) (HasComponentCost net b r) are
    (λ c. (
      λ any. let f = any_in (λ (d : Destination). IsComponent net b r d.dest c) near any in record { dest = f.item.dest; component = f.holds },
      λ has.
          let f = any_in (λ (d : Destination). IsComponent net b r d.dest c) ds
          (destination_of net ds has.dest (every has.dest (intra_is_candidate net r.area has.dest b c has.component.reached))
          (λ (p : Block). IsComponent net b r p c) has.component) in
          any_of (λ (d : Destination). IsComponent net b r d.dest c) near f.item (covered f.item f.among f.holds.covered) f.holds,
    ))

-- Range costs

pub range_cost_active : (net : Network) (b : ℕ) (r : Range) (cost : ℕ) → RangeCost net b r cost → IsActive net b r
range_cost_active net b r cost it_4 = grind (arith, common_steps)

compatible_one : (net : Network) (b : ℕ) → IsCompatible net b true → IsCompatible net b false → ⊥
compatible_one net b one other = grind (arith, common_steps, HasConfiguration-unique, false≢true)

pub range_cost_unique : (net : Network) (b : ℕ) (r : Range) (c d : ℕ) → RangeCost net b r c → RangeCost net b r d → c ≡ d
range_cost_unique net b r c d (stated is _) (stated also _) = same_Some c d (sym is ∙ also)
range_cost_unique net b r c d (stated is _) (least unsaid _ _ _ _) = absurd (none-some c (sym unsaid ∙ is))
range_cost_unique net b r c d (stated is _) (greatest unsaid _ _ _ _) = absurd (none-some c (sym unsaid ∙ is))
range_cost_unique net b r c d (least unsaid _ _ _ _) (stated is _) = absurd (none-some d (sym unsaid ∙ is))
range_cost_unique net b r c d (greatest unsaid _ _ _ _) (stated is _) = absurd (none-some d (sym unsaid ∙ is))
range_cost_unique net b r c d (least _ _ p one lower) (least _ _ q other also) = omega (arith, lower q d other, also p c one)
range_cost_unique net b r c d (greatest _ _ p one upper) (greatest _ _ q other also) = omega (arith, upper q d other, also p c one)
range_cost_unique net b r c d (least _ old _ _ _) (greatest _ new _ _ _) = absurd (compatible_one net b old new)
range_cost_unique net b r c d (greatest _ new _ _ _) (least _ old _ _ _) = absurd (compatible_one net b old new)

-- what is picked from the costs of the components is the range's cost
pub range_cost_is : (net : Network) (b : ℕ) (config : Configuration) (r : Range) (costs given : List ℕ) (cost : ℕ) → HasConfiguration net b config →
    Exactly (HasComponentCost net b r) costs → given ≡ costs →
    IsPicked r config.rfc1583 given cost → RangeCost net b r cost
range_cost_is net b config r costs given cost router are same picked = go picked
  where
    listed : Exactly (HasComponentCost net b r) given
    listed = subst (λ (l : List ℕ). Exactly (HasComponentCost net b r) l) (sym same) are

    go : IsPicked r config.rfc1583 given cost → RangeCost net b r cost
    go (IsPicked.stated is some) =
        let c : ℕ = get_or given 0 0 in
        let has : HasComponentCost net b r c = (listed c).0 (Contains-get_or given 0 0 some) in
        stated is (record { dest = has.dest; cost = c; component = has.component })
    go (IsPicked.least unsaid old is) =
        let has : HasComponentCost net b r cost = (listed cost).0 is.among in
        least unsaid (record { config = config; router = router; says = old }) has.dest has.component
        (λ q other component. is.least other ((listed other).1 (record { dest = q; component = component })))
    go (IsPicked.greatest unsaid new is) =
        let has : HasComponentCost net b r cost = (listed cost).0 is.among in
        greatest unsaid (record { config = config; router = router; says = new }) has.dest has.component
        (λ q other component. is.greatest other ((listed other).1 (record { dest = q; component = component })))

-- without components the range isn't active
pub not_active : (net : Network) (b : ℕ) (r : Range) (costs given : List ℕ) → Exactly (HasComponentCost net b r) costs → given ≡ costs → length given ≡ 0 →
    IsActive net b r → ⊥
not_active net b r costs given are same none active =
    let has : Contains costs active.cost = (are active.cost).1 (record { dest = active.dest; component = active.component }) in
    let e : length given ≡ length costs = ap length same in
    omega (arith, has.1)

-- Active ranges

-- the active ones among the first ranges
pub record ActivesSoFar (net : Network) (b : ℕ) (front : List Range) (actives : List ActiveRange) : Type 0 where
  pub exact : (a : ActiveRange) → Contains actives a → RangeCost net b a.range a.cost
  pub every : (r : Range) → Contains front r → IsActive net b r → HasActive actives r

pub actives_more : (net : Network) (b : ℕ) (front : List Range) (r : Range) (old new : List ActiveRange) (found : Option ActiveRange) →
    ActivesSoFar net b front old →
    MatchOption found (IsActive net b r → ⊥) (IsActiveAt net b r) → Adds old new (λ a. found ≡ Some a) → ActivesSoFar net b (front ++ r ∷ []) new
actives_more net b front r old new None before none adds = record {
  exact = λ a has. ⊎_elim (λ older. before.exact a older) (λ no. absurd (none-some a no)) ((adds a).0 has);
  every = λ s has active. ⊎_elim
      (λ earlier. let h = before.every s earlier active in record { active = h.active; among = (adds h.active).1 (inl h.among); range = h.range })
      (λ same. absurd (none (subst (IsActive net b) (sym same) active)))
      (Contains-push_cases front r s has);
}
actives_more net b front r old new (Some x) before is adds = record {
  exact = λ a has. ⊎_elim
      (λ older. before.exact a older)
      (λ same. subst (λ (y : ActiveRange). RangeCost net b y.range y.cost) (same_Some x a same) is.costs)
      ((adds a).0 has);
  every = λ s has active. ⊎_elim
      (λ earlier. let h = before.every s earlier active in record { active = h.active; among = (adds h.active).1 (inl h.among); range = h.range })
      (λ same. record { active = x; among = (adds x).1 (inr refl); range = is.range ∙ same })
      (Contains-push_cases front r s has);
}

-- the order of the active ranges doesn't matter
pub actives_moved : (net : Network) (b : ℕ) (old new : List ActiveRange) → ((a : ActiveRange) → Contains new a ↔ Contains old a) →
    AreActiveRanges net b old → AreActiveRanges net b new
actives_moved net b old new same are = record {
  exact = λ a. (λ has. (are.exact a).0 ((same a).0 has), λ costs. (same a).1 ((are.exact a).1 costs));
  every = λ r active.
      let h : HasActive old r = are.every r active in
      record { active = h.active; among = (same h.active).1 h.among; range = h.range };
}

-- a condition on prefixes holds of some active range exactly where it does among those around the prefix
pub any_around : (P : ActiveRange → Type 0) (all near : List ActiveRange) (p : Block) → ((a : ActiveRange) → P a → a.range.dest ≡ p) →
    AreRangesAround all p near → Any P near ↔ Any P all
any_around P all near p of around = (
  λ any. let f = any_in P near any in any_of P all f.item (around.among f.item f.among) f.holds,
  λ any. let f = any_in P all any in any_of P near f.item (around.every f.item f.among (of f.item f.holds)) f.holds,
)

pub actives_all : (net : Network) (b : ℕ) (config : Configuration) (given : List Range) (actives : List ActiveRange) → HasConfiguration net b config →
    given ≡ config.ranges → ActivesSoFar net b given actives → AreActiveRanges net b actives
actives_all net b config given actives router are so_far = record {
  exact = λ a. (
    so_far.exact a,
    λ costs.
        let active : IsActive net b a.range = range_cost_active net b a.range a.cost costs in
        let h = every a.range active in
        let here : RangeCost net b h.active.range h.active.cost = so_far.exact h.active h.among in
        let same : h.active.cost ≡ a.cost = range_cost_unique net b a.range h.active.cost a.cost
        (subst (λ (r : Range). RangeCost net b r h.active.cost) h.range here) costs in
        let one : h.active ≡ a = λ i. record { range = h.range i; cost = same i } in
        subst (λ (x : ActiveRange). Contains actives x) one h.among,
  );
  every = every;
}
  where
    every : (r : Range) → IsActive net b r → HasActive actives r
    every r active = so_far.every r (range_among net b config given r router are active.component.range) active

-- the prefix of an active range
pub active_range_is : (net : Network) (u : ℕ) (p : Block) (actives : List ActiveRange) → AreActiveRanges net u actives →
    Any (λ (a : ActiveRange). a.range.dest ≡ p) actives ↔ IsActiveRange net p u
active_range_is net u p actives are = (
  λ any.
      let f = any_in (λ (a : ActiveRange). a.range.dest ≡ p) actives any in
      record { range = f.item.range; active = range_cost_active net u f.item.range f.item.cost ((are.exact f.item).0 f.among); dest = f.holds },
  λ is.
      let h = are.every is.range is.active in
      any_of (λ (a : ActiveRange). a.range.dest ≡ p) actives h.active h.among (ap (λ (r : Range). r.dest) h.range ∙ is.dest),
)

-- Router by router

-- The longest range

-- the range is of area n, and covers p
record IsMatching (n : ℕ) (p : Block) (r : Range) : Type 0 where
  pub area : r.area ≡ n
  pub covers : Covers r.dest p

matches_or_not : (n : ℕ) (p : Block) (r : Range) → IsMatching n p r ⊎ (IsMatching n p r → ⊥)
matches_or_not n p r = elim (cases_eq r.area n) [
  | inl area ↦ elim (cases_lt p.len r.dest.len) [
    | inl short ↦ inr (λ is. let longer = is.covers.longer in omega arith)
    | inr longer ↦ elim (cases_eq (first_bits r.dest.len p.base) (first_bits r.dest.len r.dest.base)) [
      | inl inside ↦ inl (record { area = area; covers = record { longer = longer; inside = inside } })
      | inr outside ↦ inr (λ is. outside is.covers.inside)
    ]
  ]
  | inr other ↦ inr (λ is. other is.area)
]

-- none of these is longer that is of area n and covers p
record Longest (n : ℕ) (p : Block) (ranges : List Range) : Type 0 where
  pub range : Range
  pub among : Contains ranges range
  pub is : IsMatching n p range
  pub longest : (other : Range) → Contains ranges other → IsMatching n p other → other.dest.len ≤ range.dest.len

-- the longest of the first range and of those behind it
longest_of : (n : ℕ) (p : Block) (r : Range) (ranges : List Range) → IsMatching n p r ⊎ (IsMatching n p r → ⊥) →
    ((other : Range) → Contains ranges other → IsMatching n p other → ⊥) ⊎ Longest n p ranges →
    ((other : Range) → Contains (r ∷ ranges) other → IsMatching n p other → ⊥) ⊎ Longest n p (r ∷ ranges)
longest_of n p r ranges first rest = elim rest [
  | inl none ↦ elim first [
    | inl is ↦ inr (record {
      range = r;
      among = here;
      is = is;
      longest = λ other among also. elim (cases other among) [
        | inl same ↦ let e = ap (λ (x : Range). x.dest.len) same in omega arith
        | inr later ↦ absurd (none other later also)
      ];
    })
    | inr unlike ↦ inl (λ other among also. elim (cases other among) [
      | inl same ↦ unlike (subst (IsMatching n p) same also)
      | inr later ↦ none other later also
    ])
  ]
  | inr best ↦ elim first [
    | inl is ↦ elim (cases_lt best.range.dest.len r.dest.len) [
      | inl longer ↦ inr (record {
        range = r;
        among = here;
        is = is;
        longest = λ other among also. elim (cases other among) [
          | inl same ↦ let e = ap (λ (x : Range). x.dest.len) same in omega arith
          | inr later ↦ let low = best.longest other later also in omega arith
        ];
      })
      | inr short ↦ inr (record {
        range = best.range;
        among = behind best.range best.among;
        is = best.is;
        longest = λ other among also. elim (cases other among) [
          | inl same ↦ let e = ap (λ (x : Range). x.dest.len) same in omega arith
          | inr later ↦ best.longest other later also
        ];
      })
    ]
    | inr unlike ↦ inr (record {
      range = best.range;
      among = behind best.range best.among;
      is = best.is;
      longest = λ other among also. elim (cases other among) [
        | inl same ↦ absurd (unlike (subst (IsMatching n p) same also))
        | inr later ↦ best.longest other later also
      ];
    })
  ]
]
  where
    here : Contains (r ∷ ranges) r
    here = Contains-append_left (r ∷ []) ranges r (Contains-push [] r)

    behind : (other : Range) → Contains ranges other → Contains (r ∷ ranges) other
    behind other among = Contains-append_right (r ∷ []) ranges other among

    cases : (other : Range) → Contains (r ∷ ranges) other → (other ≡ r) ⊎ Contains ranges other
    cases other among = ⊎_elim (λ first. inl (the_one r other first)) (λ later. inr later) (Contains-append_cases (r ∷ []) ranges other among)

longest_or_none : (n : ℕ) (p : Block) (ranges : List Range) →
    ((other : Range) → Contains ranges other → IsMatching n p other → ⊥) ⊎ Longest n p ranges
longest_or_none n p [] = inl (λ other among also. absurd (omega (arith, among.1)))
longest_or_none n p (r ∷ ranges) = longest_of n p r ranges (matches_or_not n p r) (longest_or_none n p ranges)

-- what a range covers is a component of the longest one of its area that does
pub covered_is_component : (net : Network) (b : ℕ) (r : Range) (p : Block) (cost : ℕ) → HasRange net b r → IsCoveredAt net b r p cost →
    IsComponentOfSome net b p
covered_is_component net b r p cost has is = elim (longest_or_none r.area p has.config.ranges) [
  | inl none ↦ absurd (none r has.among (record { area = refl; covers = is.covered }))
  | inr best ↦ record {
    range = best.range;
    cost = cost;
    component = record {
      range = record { border = has.border; config = has.config; router = has.router; among = best.among };
      covered = best.is.covers;
      reached = subst (λ (n : ℕ). IntraAreaCost net n p b cost) (sym best.is.area) is.reached;
      longest = λ other also area over.
          best.longest other (range_among net b has.config has.config.ranges other has.router refl also)
          (record { area = area ∙ best.is.area; covers = over });
    };
  }
]

-- an active range is one of the router's
pub active_is_range : (net : Network) (b : ℕ) (actives : List ActiveRange) (a : ActiveRange) → AreActiveRanges net b actives →
    Contains actives a → HasRange net b a.range
active_is_range net b actives a are among = (range_cost_active net b a.range a.cost ((are.exact a).0 among)).component.range

-- where no active range covers it, it is a component of none
pub no_component_of : (net : Network) (b : ℕ) (actives : List ActiveRange) (p : Block) → AreActiveRanges net b actives →
    All (λ (a : ActiveRange). (c : ℕ) → IsCoveredAt net b a.range p c → ⊥) actives → IsComponentOfSome net b p → ⊥
no_component_of net b actives p are none is =
    let h = are.every is.range (record { dest = p; cost = is.cost; component = is.component }) in
    All-contains (λ (a : ActiveRange). (c : ℕ) → IsCoveredAt net b a.range p c → ⊥) actives h.active none h.among is.cost
    (subst (λ (r : Range). IsCoveredAt net b r p is.cost) (sym h.range)
    (record { covered = is.component.covered; reached = is.component.reached }))

-- lists that hold the prefixes of all routers' active ranges
pub hold_ranges : (ranges : List (List ActiveRange)) (old new : List Block) → old ≡ [] →
    Adds old new (λ p. Any (λ (actives : List ActiveRange). Any (λ (a : ActiveRange). a.range.dest ≡ p) actives) ranges) → (net : Network) →
    AreRangesBelow net (length net) ranges → HoldRanges net new
hold_ranges ranges old new empty adds net are p u is =
    let within : u < length net = InArea-within net u is.active.component.range.border.one is.active.component.range.border.in_one in
    let count : length ranges ≡ length net = are.count in
    (adds p).1 (inr (any_of (λ (actives : List ActiveRange). Any (λ (a : ActiveRange). a.range.dest ≡ p) actives) ranges (get_or ranges u [])
    (Contains-get_or ranges u [] (omega arith)) ((active_range_is net u p (get_or ranges u []) (are.each u within)).1 is)))
