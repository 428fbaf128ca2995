-- The walks over some vertices, numbered anew, are those over all.
use Rattle.std.proofs.Common.{◌≡◌, ℕ, ◌+◌, ◌<◌, ◌≤◌, ◌↔◌, List, [], ◌∷◌, Option, None, Contains, length, map, get_or, refl}
use Rattle.std.proofs.Common.{arith, inl, inr, sym, ◌∙◌, subst, ap}
use Rattle.std.proofs.Math.ListN.{get_or-map}
use Rattle.std.proofs.lemmas.Bool.{cases_lt}
use Rattle.std.proofs.lemmas.List.{length-map}
use Rattle.std.proofs.lemmas.List.{get_or-map as get_or_within}
use Rattle.std.proofs.lemmas.List.Elements.{Contains-get_or}
use Rattle.walk_core.specs.Distances.{distance_at}
use Rattle.walk_core.specs.Walks.{Arcs, Leg, Walks, walk_cost, LeastWalk, LeastCost, FirstHop}
use Rattle.std.specs.List.Sorted.{IsStrictlyIncreasing}
use Rattle.walk_core.specs.steps.Ascending.{AreAscending}
use Rattle.walk_core.specs.steps.FirstHops.{ListFirstHops}
use Rattle.walk_core.specs.steps.Members.{AreVertices, IsSpread, member_at, members_at}
use Rattle.walk_core.specs.steps.Rows.{IsDistanceRow}

-- each place below n is that of its vertex, and each vertex of such a place stands there
pub record IsPlacing (n : ℕ) (place mem : ℕ → ℕ) : Type 0 where
  pub places : (p : ℕ) → p < n → place (mem p) ≡ p
  pub members : (v : ℕ) → place v < n → mem (place v) ≡ v

-- all arcs are between members, and the same ones between their places
pub record Renumbers (arc small : Arcs) (n : ℕ) (place mem : ℕ → ℕ) : Type 0 where
  pub there : (u v c : ℕ) → arc u v c → (place u < n) × (place v < n) × small (place u) (place v) c
  pub back : (p q c : ℕ) → small p q c → (p < n) × (q < n) × arc (mem p) (mem q) c
  pub placing : IsPlacing n place mem

-- the legs lead to other numbers
abbrev renamed : (ℕ → ℕ) → List Leg → List Leg
renamed f [] = []
renamed f (leg ∷ legs) = record { to = f leg.to; cost = leg.cost } ∷ renamed f legs

cost_renamed : (f : ℕ → ℕ) (legs : List Leg) → walk_cost (renamed f legs) ≡ walk_cost legs
cost_renamed f [] = refl
cost_renamed f (leg ∷ legs) = ap (λ (c : ℕ). leg.cost + c) (cost_renamed f legs)

-- a walk from a member is one between places
walks_there : (arc small : Arcs) (n : ℕ) (place mem : ℕ → ℕ) → Renumbers arc small n place mem →
    (u : ℕ) (legs : List Leg) (v : ℕ) → place u < n →
    Walks arc u legs v → (place v < n) × Walks small (place u) (renamed place legs) (place v)
walks_there arc small n place mem are u [] v within leads = (subst (λ (w : ℕ). place w < n) leads within, ap place leads)
walks_there arc small n place mem are u (leg ∷ legs) v within leads =
    let over = are.there u leg.to leg.cost leads.0 in
    let rest = walks_there arc small n place mem are leg.to legs v over.1 leads.1 in
    (rest.0, (over.2, rest.1))

-- a walk between places is one between their vertices
walks_back : (arc small : Arcs) (n : ℕ) (place mem : ℕ → ℕ) → Renumbers arc small n place mem →
    (p : ℕ) (legs : List Leg) (q : ℕ) →
    Walks small p legs q → Walks arc (mem p) (renamed mem legs) (mem q)
walks_back arc small n place mem are p [] q leads = ap mem leads
walks_back arc small n place mem are p (leg ∷ legs) q leads =
    ((are.back p leg.to leg.cost leads.0).2, walks_back arc small n place mem are leg.to legs q leads.1)

-- from the vertex of a place to that of another one
walks_to_places : (arc small : Arcs) (n : ℕ) (place mem : ℕ → ℕ) → Renumbers arc small n place mem →
    (p : ℕ) (legs : List Leg) (q : ℕ) → p < n → q < n →
    Walks arc (mem p) legs (mem q) → Walks small p (renamed place legs) q
walks_to_places arc small n place mem are p legs q near far leads =
    subst (λ (b : ℕ). Walks small p (renamed place legs) b) (are.placing.places q far)
    (subst (λ (a : ℕ). Walks small a (renamed place legs) (place (mem q))) (are.placing.places p near)
    (walks_there arc small n place mem are (mem p) legs (mem q)
    (subst (λ (a : ℕ). a < n) (sym (are.placing.places p near)) near) leads).1)

-- no walk leads from a member to a vertex that is none
no_walk_out : (arc small : Arcs) (n : ℕ) (place mem : ℕ → ℕ) → Renumbers arc small n place mem →
    (p : ℕ) (legs : List Leg) (v : ℕ) → p < n → n ≤ place v →
    Walks arc (mem p) legs v → ⊥
no_walk_out arc small n place mem are p legs v near out leads =
    let there = walks_there arc small n place mem are (mem p) legs v
    (subst (λ (a : ℕ). a < n) (sym (are.placing.places p near)) near) leads in
    omega (arith, there.0, out)

-- least walks are least over the others
least_there : (arc small : Arcs) (n : ℕ) (place mem : ℕ → ℕ) → Renumbers arc small n place mem →
    (p : ℕ) (legs : List Leg) (q : ℕ) → p < n → q < n →
    LeastWalk arc (mem p) legs (mem q) → LeastWalk small p (renamed place legs) q
least_there arc small n place mem are p legs q near far walk = record {
  leads = walks_to_places arc small n place mem are p legs q near far walk.leads;
  least = λ others other.
      omega (
        arith,
        cost_renamed place legs,
        cost_renamed mem others,
        walk.least (renamed mem others) (walks_back arc small n place mem are p others q other),
      );
}

least_back : (arc small : Arcs) (n : ℕ) (place mem : ℕ → ℕ) → Renumbers arc small n place mem →
    (p : ℕ) (legs : List Leg) (q : ℕ) → p < n → q < n →
    LeastWalk small p legs q → LeastWalk arc (mem p) (renamed mem legs) (mem q)
least_back arc small n place mem are p legs q near far walk = record {
  leads = walks_back arc small n place mem are p legs q walk.leads;
  least = λ others other.
      omega (
        arith,
        cost_renamed mem legs,
        cost_renamed place others,
        walk.least (renamed place others) (walks_to_places arc small n place mem are p others q near far other),
      );
}

-- least costs between places are those between their vertices
least_cost_members : (arc small : Arcs) (n : ℕ) (place mem : ℕ → ℕ) → Renumbers arc small n place mem → (p q d : ℕ) → p < n →
    q < n →
    LeastCost small p q d ↔ LeastCost arc (mem p) (mem q) d
least_cost_members arc small n place mem are p q d near far = (
  λ least. record {
    legs = renamed mem least.legs;
    walk = least_back arc small n place mem are p least.legs q near far least.walk;
    costs = cost_renamed mem least.legs ∙ least.costs;
  },
  λ least. record {
    legs = renamed place least.legs;
    walk = least_there arc small n place mem are p least.legs q near far least.walk;
    costs = cost_renamed place least.legs ∙ least.costs;
  },
)

-- first hops between places are the places of those between their vertices
hop_back : (arc small : Arcs) (n : ℕ) (place mem : ℕ → ℕ) → Renumbers arc small n place mem → (p q h : ℕ) → p < n → q < n →
    FirstHop small p q h → FirstHop arc (mem p) (mem q) (mem h)
hop_back arc small n place mem are p q h near far hop = record {
  leg = record { to = mem hop.leg.to; cost = hop.leg.cost };
  legs = renamed mem hop.legs;
  walk = least_back arc small n place mem are p (hop.leg ∷ hop.legs) q near far hop.walk;
  begins = ap mem hop.begins;
}

hop_there : (arc small : Arcs) (n : ℕ) (place mem : ℕ → ℕ) → Renumbers arc small n place mem → (p q h : ℕ) → p < n → q < n →
    FirstHop arc (mem p) (mem q) h → (place h < n) × FirstHop small p q (place h)
hop_there arc small n place mem are p q h near far hop = (
  subst (λ (w : ℕ). place w < n) hop.begins (are.there (mem p) hop.leg.to hop.leg.cost hop.walk.leads.0).1,
  record {
    leg = record { to = place hop.leg.to; cost = hop.leg.cost };
    legs = renamed place hop.legs;
    walk = least_there arc small n place mem are p (hop.leg ∷ hop.legs) q near far hop.walk;
    begins = ap place hop.begins;
  },
)

-- what stands at a member's vertex
spread_at : {X : Type 0} (place : ℕ → ℕ) (vertices : List ℕ) (none : X) (part whole : List X) →
    IsPlacing (length vertices) place (member_at vertices) →
    IsSpread none vertices (length vertices) part whole → (v : ℕ) → place v < length vertices →
    get_or whole v none ≡ get_or part (place v) none
spread_at place vertices none part whole are is v within =
    ap (λ (w : ℕ). get_or whole w none) (sym (are.members v within)) ∙ is.at (place v) within

-- and at the others nothing
spread_out : {X : Type 0} (place : ℕ → ℕ) (vertices : List ℕ) (none : X) (part whole : List X) →
    IsPlacing (length vertices) place (member_at vertices) →
    IsSpread none vertices (length vertices) part whole → (v : ℕ) → length vertices ≤ place v → get_or whole v none ≡ none
spread_out place vertices none part whole are is v out =
    is.others v (λ p below same. omega (arith, below, out, are.places p below, ap place same))

-- an element of a list with another one in place of each
pub contains_map : {X Y : Type 0} (f : X → Y) (xs : List X) (x : X) → Contains xs x → Contains (map f xs) (f x)
contains_map f xs x at = (at.0, omega (arith, at.1, length-map xs f), get_or-map f xs at.0 x ∙ ap f at.2)

pub contains_map_back : {X Y : Type 0} (f : X → Y) (d : X) (xs : List X) (y : Y) → Contains (map f xs) y →
    (x : X) × Contains xs x × (f x ≡ y)
contains_map_back f d xs y at =
    let below : at.0 < length xs = omega (arith, at.1, length-map xs f) in
    (get_or xs at.0 d, Contains-get_or xs at.0 d below, sym (get_or_within f xs at.0 d y below) ∙ at.2)

-- the distances between members are those from a member
pub row_spread : (arc small : Arcs) (count : ℕ) (place : ℕ → ℕ) (vertices : List ℕ) (p : ℕ) (row whole : List (Option ℕ)) →
    Renumbers arc small (length vertices) place (member_at vertices) → length vertices ≤ count → p < length vertices →
    IsDistanceRow small (length vertices) p row → IsSpread None vertices (length vertices) row whole → length whole ≤ count →
    IsDistanceRow arc count (member_at vertices p) whole
row_spread arc small count place vertices p row whole are few below known is within = record {
  least = record {
    least = λ v d. elim (cases_lt (place v) n) [
      | inl inside ↦ (
        λ far. subst (λ (w : ℕ). LeastCost arc (mem p) w d) (are.placing.members v inside)
            ((least_cost_members arc small n place mem are p (place v) d below inside).0
            ((known.least.least (place v) d).0 (sym (here v inside) ∙ far))),
        λ least. here v inside ∙ (known.least.least (place v) d).1
            ((least_cost_members arc small n place mem are p (place v) d below inside).1
            (subst (λ (w : ℕ). LeastCost arc (mem p) w d) (sym (are.placing.members v inside)) least)),
      )
      | inr not ↦ (
        λ far. absurd (cc (far, none_at v (omega (arith, not)))),
        λ least. absurd (no_walk_out arc small n place mem are p least.legs v below (omega (arith, not)) least.walk.leads),
      )
    ];
    none = λ v. elim (cases_lt (place v) n) [
      | inl inside ↦ (
        λ none legs leads. (known.least.none (place v)).0 (sym (here v inside) ∙ none) (renamed place legs)
            (walks_to_places arc small n place mem are p legs (place v) below inside
            (subst (λ (w : ℕ). Walks arc (mem p) legs w) (sym (are.placing.members v inside)) leads)),
        λ none. here v inside ∙ (known.least.none (place v)).1 (λ legs leads. none (renamed mem legs)
            (subst (λ (w : ℕ). Walks arc (mem p) (renamed mem legs) w) (are.placing.members v inside)
            (walks_back arc small n place mem are p legs (place v) leads))),
      )
      | inr not ↦ (
        λ none legs leads. no_walk_out arc small n place mem are p legs v below (omega (arith, not)) leads,
        λ none. none_at v (omega (arith, not)),
      )
    ];
  };
  within = within;
  near = λ v d far. elim (cases_lt (place v) n) [
    | inl inside ↦ omega (arith, few, known.near (place v) d (sym (here v inside) ∙ far))
    | inr not ↦ absurd (cc (far, none_at v (omega (arith, not))))
  ];
}
  where
    n : ℕ
    n = length vertices

    mem : ℕ → ℕ
    mem = member_at vertices

    here : (v : ℕ) → place v < n → distance_at whole v ≡ distance_at row (place v)
    here v inside = spread_at place vertices None row whole are.placing is v inside

    none_at : (v : ℕ) → n ≤ place v → distance_at whole v ≡ None
    none_at v out = spread_out place vertices None row whole are.placing is v out

-- and so are the first hops
pub hops_spread : (arc small : Arcs) (place : ℕ → ℕ) (vertices : List ℕ) (p : ℕ) (lists whole : List (List ℕ)) →
    Renumbers arc small (length vertices) place (member_at vertices) → p < length vertices → ListFirstHops small p lists →
    IsSpread [] vertices (length vertices) (map (members_at vertices) lists) whole →
    ListFirstHops arc (member_at vertices p) whole
hops_spread arc small place vertices p lists whole are below known is v h = elim (cases_lt (place v) n) [
  | inl inside ↦ (
    λ has.
        let old = contains_map_back mem 0 (list v) h (subst (λ (l : List ℕ). Contains l h) (here v inside) has) in
        subst (λ (w : ℕ). FirstHop arc (mem p) w h) (are.placing.members v inside)
        (subst (λ (x : ℕ). FirstHop arc (mem p) (mem (place v)) x) old.2
        (hop_back arc small n place mem are p (place v) old.0 below inside ((known (place v) old.0).0 old.1))),
    λ first.
        let there = hop_there arc small n place mem are p (place v) h below inside
        (subst (λ (w : ℕ). FirstHop arc (mem p) w h) (sym (are.placing.members v inside)) first) in
        subst (λ (l : List ℕ). Contains l h) (sym (here v inside))
        (subst (λ (x : ℕ). Contains (members_at vertices (list v)) x) (are.placing.members h there.0)
        (contains_map mem (list v) (place h) ((known (place v) (place h)).1 there.1))),
  )
  | inr not ↦ (
    λ has.
        let none : Contains [] h = subst (λ (l : List ℕ). Contains l h)
        (spread_out place vertices [] (map (members_at vertices) lists) whole are.placing is v (omega (arith, not))) has in
        absurd (omega (arith, none.1)),
    λ first. absurd
        (no_walk_out arc small n place mem are p (first.leg ∷ first.legs) v below (omega (arith, not)) first.walk.leads),
  )
]
  where
    n : ℕ
    n = length vertices

    mem : ℕ → ℕ
    mem = member_at vertices

    list : ℕ → List ℕ
    list v = get_or lists (place v) []

    here : (v : ℕ) → place v < n → get_or whole v [] ≡ members_at vertices (list v)
    here v inside = spread_at place vertices [] (map (members_at vertices) lists) whole are.placing is v inside
        ∙ get_or-map (members_at vertices) lists (place v) []

-- the vertices of places that ascend do so too
increasing_members : (vertices : List ℕ) (end : ℕ) (list : List ℕ) → AreVertices vertices end →
    ((h : ℕ) → Contains list h → h < length vertices) →
    IsStrictlyIncreasing list → IsStrictlyIncreasing (members_at vertices list)
increasing_members vertices end list are small is k below =
    let later : k + 1 < length list = omega (arith, below, length-map list (member_at vertices)) in
    let near : get_or (members_at vertices list) k 0 ≡ member_at vertices (get_or list k 0) =
    get_or_within (member_at vertices) list k 0 0 (omega (arith, later)) in
    let far : get_or (members_at vertices list) (k + 1) 0 ≡ member_at vertices (get_or list (k + 1) 0) =
    get_or_within (member_at vertices) list (k + 1) 0 0 later in
    omega (
      arith,
      near,
      far,
      are.ascending (get_or list k 0) (get_or list (k + 1) 0) (is k later)
          (small (get_or list (k + 1) 0) (Contains-get_or list (k + 1) 0 later)),
    )

pub ascending_spread : (place : ℕ → ℕ) (vertices : List ℕ) (end : ℕ) (lists whole : List (List ℕ)) →
    IsPlacing (length vertices) place (member_at vertices) →
    AreVertices vertices end → ((v h : ℕ) → Contains (get_or lists v []) h → h < length vertices) → AreAscending lists →
    IsSpread [] vertices (length vertices) (map (members_at vertices) lists) whole → AreAscending whole
ascending_spread place vertices end lists whole fits are small is spread v = elim (cases_lt (place v) (length vertices)) [
  | inl inside ↦ subst IsStrictlyIncreasing
      (sym (spread_at place vertices [] (map (members_at vertices) lists) whole fits spread v inside
      ∙ get_or-map (members_at vertices) lists (place v) []))
      (increasing_members vertices end (get_or lists (place v) []) are (small (place v)) (is (place v)))
  | inr not ↦ subst IsStrictlyIncreasing
      (sym (spread_out place vertices [] (map (members_at vertices) lists) whole fits spread v (omega (arith, not))))
      (λ k below. absurd (omega (arith, below)))
]
