-- Rings: each element and the next one.
use Rattle.std.proofs.lemmas.Grind.{common_steps}
use Rattle.std.proofs.Common.{◌≡◌, ◌≢◌, ℕ, zero, suc, ◌<◌, ◌≤◌, ◌⊎◌, inl, inr, List, [], ◌∷◌, ◌++◌, length, Contains}
use Rattle.std.proofs.Common.{AllPairs, refl, sym, ap, ◌∙◌, subst, arith}
use Rattle.std.proofs.lemmas.List.{append-nil}
use Rattle.order_core.specs.Orders.{AreDistinct}
use Rattle.order_core.specs.Turns.{routers_of}
use Rattle.order_core.specs.declared.turn.Turn.{Turn}
use Rattle.igp_theory.specs.Loops.{EachToNext, AroundRing, IsLowestLiveHop, IsFoundRing}
use Rattle.igp_theory.specs.States.{Follows}
use Rattle.igp_theory.proofs.Delivery.{contains_or_not, LeadsOn}
use Rattle.net_model.proofs.Members.{Contains-none, Contains-first, Contains-rest, Contains-cases}
use Rattle.igp_theory.proofs.OrderedLists.{pairs_none, pairs_more, pairs_first, pairs_rest, pairs_append, pairs_across, pairs_front, pairs_back}
use Rattle.igp_theory.proofs.SameTables.{each_to_next_over}

-- Each element of a ring and the next one

-- from one relation to another, at the elements of the ring
pub each_inside : {A : Type 0} (R S : A → A → Type 0) (first : A) (ring : List A) → ((r s : A) → Contains ring r → R r s → S r s) →
    EachToNext R first ring → EachToNext S first ring
each_inside R S first [] over goes = tt
each_inside R S first (r ∷ []) over goes = over r first (Contains-first r []) goes
each_inside R S first (r ∷ s ∷ rest) over goes = (
  over r s (Contains-first r (s ∷ rest)) goes.0,
  each_inside R S first (s ∷ rest) (λ x y inside. over x y (Contains-rest r (s ∷ rest) x inside))
      goes.1,
)

pub around_inside : {A : Type 0} (R S : A → A → Type 0) (ring : List A) → ((r s : A) → Contains ring r → R r s → S r s) →
    AroundRing R ring → AroundRing S ring
around_inside R S [] over goes = tt
around_inside R S (r ∷ rest) over goes = each_inside R S r (r ∷ rest) over goes

-- two relations at once
each_both : {A : Type 0} (R S : A → A → Type 0) (first : A) (ring : List A) → EachToNext R first ring → EachToNext S first ring →
    EachToNext (λ r s. R r s × S r s) first ring
each_both R S first [] one two = tt
each_both R S first (r ∷ []) one two = (one, two)
each_both R S first (r ∷ s ∷ rest) one two = ((one.0, two.0), each_both R S first (s ∷ rest) one.1 two.1)

pub around_both : {A : Type 0} (R S : A → A → Type 0) (ring : List A) → AroundRing R ring → AroundRing S ring →
    AroundRing (λ r s. R r s × S r s) ring
around_both R S [] one two = tt
around_both R S (r ∷ rest) one two = each_both R S r (r ∷ rest) one two

-- what an element goes to
each_at : {A : Type 0} (R : A → A → Type 0) (first : A) (ring : List A) (r : A) → EachToNext R first ring → Contains ring r → (s : A) × R r s
each_at R first [] r goes inside = absurd (Contains-none r inside)
each_at R first (x ∷ []) r goes inside = elim (Contains-cases x [] r inside) [
  | inl same ↦ (first, subst (λ y. R y first) same goes)
  | inr none ↦ absurd (Contains-none r none)
]
each_at R first (x ∷ s ∷ rest) r goes inside = elim (Contains-cases x (s ∷ rest) r inside) [
  | inl same ↦ (s, subst (λ y. R y s) same goes.0)
  | inr later ↦ each_at R first (s ∷ rest) r goes.1 later
]

pub around_at : {A : Type 0} (R : A → A → Type 0) (ring : List A) (r : A) → AroundRing R ring → Contains ring r → (s : A) × R r s
around_at R [] r goes inside = absurd (Contains-none r inside)
around_at R (x ∷ rest) r goes inside = each_at R x (x ∷ rest) r goes inside

-- Turning

each_drop : {A : Type 0} (R : A → A → Type 0) (f y : A) (xs ys : List A) → EachToNext R f (xs ++ y ∷ ys) → EachToNext R f (y ∷ ys)
each_drop R f y [] ys goes = goes
each_drop R f y (x ∷ []) ys goes = goes.1
each_drop R f y (x ∷ z ∷ rest) ys goes = each_drop R f y (z ∷ rest) ys goes.1

each_take : {A : Type 0} (R : A → A → Type 0) (f y : A) (xs ys : List A) → EachToNext R f (xs ++ y ∷ ys) → EachToNext R y xs
each_take R f y [] ys goes = tt
each_take R f y (x ∷ []) ys goes = goes.0
each_take R f y (x ∷ z ∷ rest) ys goes = (goes.0, each_take R f y (z ∷ rest) ys goes.1)

each_join : {A : Type 0} (R : A → A → Type 0) (f y : A) (xs ys : List A) → EachToNext R y xs → EachToNext R f (y ∷ ys) →
    EachToNext R f (xs ++ y ∷ ys)
each_join R f y [] ys goes rest = rest
each_join R f y (x ∷ []) ys goes rest = (goes, rest)
each_join R f y (x ∷ z ∷ more) ys goes rest = (goes.0, each_join R f y (z ∷ more) ys goes.1 rest)

-- a ring can be turned
around_turned : {A : Type 0} (R : A → A → Type 0) (xs ys : List A) → AroundRing R (xs ++ ys) → AroundRing R (ys ++ xs)
around_turned R [] ys goes = subst (AroundRing R) (sym (append-nil ys)) goes
around_turned R (x ∷ xs) [] goes = subst (AroundRing R) (append-nil (x ∷ xs)) goes
around_turned R (x ∷ xs) (y ∷ ys) goes = each_join R y x (y ∷ ys) xs (each_drop R x y (x ∷ xs) ys goes) (each_take R x y (x ∷ xs) ys goes)

distinct_turned : (xs ys : List ℕ) → AreDistinct (xs ++ ys) → AreDistinct (ys ++ xs)
distinct_turned xs ys distinct =
    pairs_append (λ u v. u ≢ v) ys xs (pairs_back (λ u v. u ≢ v) xs ys distinct) (pairs_front (λ u v. u ≢ v) xs ys distinct)
    (λ u v left right same. pairs_across (λ x y. x ≢ y) xs ys distinct v u right left (sym same))

-- The ring that is found

-- each router of it steps to the next one
pub found_goes_round : {step : ℕ → ℕ → Type 0} {n : ℕ} {ring : List ℕ} → IsFoundRing step n ring → AroundRing step ring
found_goes_round {step} {n} found =
    let all : EachToNext step found.again (found.lead ++ found.again ∷ found.rest) =
    subst (λ (xs : List ℕ). EachToNext step found.again xs) found.in_order
    (each_to_next_over (λ (u h : ℕ) (hop : IsLowestLiveHop step n u h). hop.steps) found.again (found.start ∷ found.visited) found.goes) in
    let part : AroundRing step (found.front ++ found.back) =
    subst (AroundRing step) found.found (each_drop step found.again found.again found.lead found.rest all) in
    subst (AroundRing step) (sym found.turned) (around_turned step found.front found.back part)

pub found_distinct : {step : ℕ → ℕ → Type 0} {n : ℕ} {ring : List ℕ} → IsFoundRing step n ring → AreDistinct ring
found_distinct found =
    let part : AreDistinct (found.again ∷ found.rest) =
    pairs_back (λ u v. u ≢ v) found.lead (found.again ∷ found.rest) (subst AreDistinct found.in_order found.distinct) in
    subst AreDistinct (sym found.turned) (distinct_turned found.front found.back (subst AreDistinct found.found part))

-- Lists of steps that return

-- a list of steps from u to v, no longer than this
record LeadsShort (step : ℕ → ℕ → Type 0) (u v most : ℕ) : Type 0 where
  hop : ℕ
  hops : List ℕ
  follows : Follows step u (hop ∷ hops) v
  short : length (hop ∷ hops) ≤ most

leads_short : (step : ℕ → ℕ → Type 0) (u : ℕ) (hops : List ℕ) (v w : ℕ) → Follows step u hops v → Contains hops w →
    LeadsShort step u w (length hops)
leads_short step u [] v w follows among = absurd (Contains-none w among)
leads_short step u (h ∷ hops) v w follows among = elim (Contains-cases h hops w among) [
  | inl same ↦ record { hop = h; hops = []; follows = (follows.0, same); short = omega arith }
  | inr later ↦
      let rest : LeadsShort step h w (length hops) = leads_short step h hops v w follows.1 later in
      record { hop = h; hops = rest.hop ∷ rest.hops; follows = (follows.0, rest.follows); short = let k = rest.short in omega (arith, k) }
]

distinct_or_short : (step : ℕ → ℕ → Type 0) (u : ℕ) (hops : List ℕ) (v : ℕ) → Follows step u hops v →
    AreDistinct (u ∷ hops) ⊎ ((w : ℕ) × LeadsShort step w w (length hops))
distinct_or_short step u [] v follows = inl (pairs_more (λ x y. x ≢ y) u [] (λ w inside. absurd (Contains-none w inside)) (pairs_none (λ x y. x ≢ y)))
distinct_or_short step u (h ∷ hops) v follows = elim (distinct_or_short step h hops v follows.1) [
  | inr returns ↦ inr (
    returns.0,
    record {
      hop = returns.1.hop;
      hops = returns.1.hops;
      follows = returns.1.follows;
      short = let k = returns.1.short in omega (arith, k);
    },
  )
  | inl distinct ↦ elim (contains_or_not u (h ∷ hops)) [
    | inl again ↦ inr (u, leads_short step u (h ∷ hops) v u follows again)
    | inr absent ↦ inl (pairs_more (λ x y. x ≢ y) u (h ∷ hops) (λ w inside same. absent (subst (Contains (h ∷ hops)) (sym same) inside)) distinct)
  ]
]

-- a ring of one or more distinct routers, each of which steps to the next
pub record StepRing (step : ℕ → ℕ → Type 0) : Type 0 where
  pub first : ℕ
  pub others : List ℕ
  pub distinct : AreDistinct (first ∷ others)
  pub goes : AroundRing step (first ∷ others)

-- a list of steps whose last router steps to `first`
round_from : (step : ℕ → ℕ → Type 0) (first u : ℕ) (hops : List ℕ) (v : ℕ) → Follows step u hops v → step v first →
    EachToNext step first (u ∷ hops)
round_from step first u [] v follows last = subst (λ (x : ℕ). step x first) (sym follows) last
round_from step first u (h ∷ hops) v follows last = (follows.0, round_from step first h hops v follows.1 last)

ring_within : (step : ℕ → ℕ → Type 0) (most u h : ℕ) (hops : List ℕ) → length hops < most → Follows step u (h ∷ hops) u → StepRing step
ring_within step zero u h hops short returns = absurd (omega (arith, short))
ring_within step (suc most) u h hops short returns = elim (distinct_or_short step h hops u returns.1) [
  | inl distinct ↦ record { first = h; others = hops; distinct = distinct; goes = round_from step h h hops u returns.1 returns.0 }
  | inr less ↦ ring_within step most less.0 less.1.hop less.1.hops (let k = less.1.short in omega (arith, k, short)) less.1.follows
]

-- a list of steps that returns to its first router contains a ring of distinct routers
pub ring_of_return : (step : ℕ → ℕ → Type 0) (u h : ℕ) (hops : List ℕ) → Follows step u (h ∷ hops) u → StepRing step
ring_of_return step u h hops returns = ring_within step (suc (length hops)) u h hops (omega arith) returns

-- Rings of turns

-- steps of the routers of turns
each_of_routers : (step : ℕ → ℕ → Type 0) (first : Turn) (ring : List Turn) → EachToNext step first.router (routers_of ring) →
    EachToNext (λ (r s : Turn). step r.router s.router) first ring
each_of_routers step first [] goes = tt
each_of_routers step first (r ∷ []) goes = goes
each_of_routers step first (r ∷ s ∷ rest) goes = (goes.0, each_of_routers step first (s ∷ rest) goes.1)

pub around_of_routers : (step : ℕ → ℕ → Type 0) (ring : List Turn) → AroundRing step (routers_of ring) →
    AroundRing (λ (r s : Turn). step r.router s.router) ring
around_of_routers step [] goes = tt
around_of_routers step (r ∷ rest) goes = each_of_routers step r (r ∷ rest) goes

pub some_turn : (ring : List Turn) (u : ℕ) (others : List ℕ) → routers_of ring ≡ u ∷ others → 0 < length ring
some_turn ring u others begins = grind (arith, common_steps)

routers_contain : (ring : List Turn) (t : Turn) → Contains ring t → Contains (routers_of ring) t.router
routers_contain [] t inside = absurd (Contains-none t inside)
routers_contain (r ∷ rest) t inside = elim (Contains-cases r rest t inside) [
  | inl same ↦ subst (λ (u : ℕ). Contains (r.router ∷ routers_of rest) u) (ap (λ (x : Turn). x.router) same)
      (Contains-first r.router (routers_of rest))
  | inr later ↦ Contains-rest r.router (routers_of rest) t.router (routers_contain rest t later)
]

pub turns_distinct : (ring : List Turn) → AreDistinct (routers_of ring) → AllPairs (λ (r s : Turn). r.router ≢ s.router) ring
turns_distinct [] distinct = pairs_none (λ (r s : Turn). r.router ≢ s.router)
turns_distinct (r ∷ rest) distinct = pairs_more (λ (x y : Turn). x.router ≢ y.router) r rest
    (λ t inside. pairs_first (λ u v. u ≢ v) r.router (routers_of rest) distinct t.router (routers_contain rest t inside))
    (turns_distinct rest (pairs_rest (λ u v. u ≢ v) r.router (routers_of rest) distinct))

-- two turns of one router are one
pub one_turn : (ring : List Turn) (r s : Turn) → AllPairs (λ (x y : Turn). x.router ≢ y.router) ring → Contains ring r → Contains ring s →
    r.router ≡ s.router → r ≡ s
one_turn [] r s distinct one two same = absurd (Contains-none r one)
one_turn (t ∷ rest) r s distinct one two same = elim (Contains-cases t rest r one) [
  | inl is_r ↦ elim (Contains-cases t rest s two) [
    | inl is_s ↦ sym is_r ∙ is_s
    | inr later ↦ absurd (pairs_first (λ (x y : Turn). x.router ≢ y.router) t rest distinct s later (ap (λ (x : Turn). x.router) is_r ∙ same))
  ]
  | inr after ↦ elim (Contains-cases t rest s two) [
    | inl is_s ↦ absurd (pairs_first (λ (x y : Turn). x.router ≢ y.router) t rest distinct r after (ap (λ (x : Turn). x.router) is_s ∙ sym same))
    | inr later ↦ one_turn rest r s (pairs_rest (λ (x y : Turn). x.router ≢ y.router) t rest distinct) after later same
  ]
]

-- a ring of steps returns to its first router
each_follows : (step : ℕ → ℕ → Type 0) (first u : ℕ) (rest : List ℕ) → EachToNext step first (u ∷ rest) →
    Follows step u (rest ++ first ∷ []) first
each_follows step first u [] goes = (goes, refl)
each_follows step first u (s ∷ rest) goes = (goes.0, each_follows step first s rest goes.1)

pub ring_returns : (step : ℕ → ℕ → Type 0) (u : ℕ) (rest : List ℕ) → AroundRing step (u ∷ rest) → LeadsOn step u u
ring_returns step u [] goes = record { hop = u; hops = []; follows = (goes, refl) }
ring_returns step u (s ∷ rest) goes = record { hop = s; hops = rest ++ u ∷ []; follows = each_follows step u u (s ∷ rest) goes }

pub each_to_routers : (step : ℕ → ℕ → Type 0) (first : Turn) (ring : List Turn) → EachToNext (λ (r s : Turn). step r.router s.router) first ring →
    EachToNext step first.router (routers_of ring)
each_to_routers step first [] goes = tt
each_to_routers step first (r ∷ []) goes = goes
each_to_routers step first (r ∷ s ∷ rest) goes = (goes.0, each_to_routers step first (s ∷ rest) goes.1)

-- a ring of turns of which each router steps to the next returns
pub turns_return : (step : ℕ → ℕ → Type 0) (ring : List Turn) → 0 < length ring → AroundRing (λ (r s : Turn). step r.router s.router) ring →
    (u : ℕ) × LeadsOn step u u
turns_return step [] some goes = absurd (omega (arith, some))
turns_return step (r ∷ rest) some goes = (r.router, ring_returns step r.router (routers_of rest) (each_to_routers step r (r ∷ rest) goes))
