-- Paths of assumed pairs: end to end, under more pairs, and without a cycle.
use Rattle.std.proofs.Common.{◌≡◌, ◌≢◌, ℕ, zero, suc, ◌<◌, ◌⊎◌, inl, inr, List, [], ◌∷◌, ◌++◌, length, get_or, take, drop}
use Rattle.std.proofs.Common.{arith, subst, sym, refl, ap}
use Rattle.std.specs.List.{All, AllPairs, Contains}
use Rattle.std.proofs.lemmas.List.{take-append-drop}
use Rattle.std.proofs.lemmas.List.Elements.{Contains-append_left, Contains-push_cases, All-contains, All-cons, All-nil}
use Rattle.order_core.specs.Pairs.{Pair, IsPath, Leads, Reaches, HasNoCycle, AreBelow}
use Rattle.order_core.proofs.DistinctLists.{AllPairs-cons, length-le_from_distinct}

-- paths end to end
pub IsPath-append : (pairs : List Pair) (u v w : ℕ) (a b : List ℕ) → IsPath pairs u a v → IsPath pairs v b w → IsPath pairs u (a ++ b) w
IsPath-append pairs u v w [] b first second = subst (λ (x : ℕ). IsPath pairs x b w) (sym first) second
IsPath-append pairs u v w (x ∷ a) b first second = (first.0, IsPath-append pairs x v w a b first.1 second)

-- a path stays one under more pairs
pub IsPath-more : (pairs more : List Pair) (u v : ℕ) (a : List ℕ) → IsPath pairs u a v → IsPath (pairs ++ more) u a v
IsPath-more pairs more u v [] path = path
IsPath-more pairs more u v (x ∷ a) path = (Contains-append_left pairs more (u, x) path.0, IsPath-more pairs more x v a path.1)

pub Reaches-itself : (pairs : List Pair) (u : ℕ) → Reaches pairs u u
Reaches-itself pairs u = record { path = []; onward = refl }

pub Reaches-step : (pairs : List Pair) (u v w : ℕ) → Contains pairs (u, v) → Reaches pairs v w → Reaches pairs u w
Reaches-step pairs u v w step rest = record { path = v ∷ rest.path; onward = (step, rest.onward) }

pub Reaches-trans : (pairs : List Pair) (u v w : ℕ) → Reaches pairs u v → Reaches pairs v w → Reaches pairs u w
Reaches-trans pairs u v w first second = record {
  path = first.path ++ second.path;
  onward = IsPath-append pairs u v w first.path second.path first.onward second.onward;
}

pub Leads-step : (pairs : List Pair) (u v w : ℕ) → Contains pairs (u, v) → Reaches pairs v w → Leads pairs u w
Leads-step pairs u v w step rest = record { next = v; path = rest.path; first = step; onward = rest.onward }

pub Reaches-from_Leads : (pairs : List Pair) (u v : ℕ) → Leads pairs u v → Reaches pairs u v
Reaches-from_Leads pairs u v leads = record { path = leads.next ∷ leads.path; onward = (leads.first, leads.onward) }

-- a router that reaches another one leads to it
pub Leads-from_Reaches : (pairs : List Pair) (u v : ℕ) → u ≢ v → Reaches pairs u v → Leads pairs u v
Leads-from_Reaches pairs u v differ reaches = leads_by reaches.path reaches.onward
  where
    leads_by : (path : List ℕ) → IsPath pairs u path v → Leads pairs u v
    leads_by [] onward = absurd (differ onward)
    leads_by (w ∷ path) onward = record { next = w; path = path; first = onward.0; onward = onward.1 }

-- under one more pair (u, v) a path goes by the old pairs alone, or to u and on from v by them
pub Reaches-push : (pairs : List Pair) (u v : ℕ) (x y : ℕ) (path : List ℕ) → IsPath (pairs ++ (u, v) ∷ []) x path y →
    Reaches pairs x y ⊎ (Reaches pairs x u × Reaches pairs v y)
Reaches-push pairs u v x y [] onward = inl (record { path = []; onward = onward })
Reaches-push pairs u v x y (w ∷ path) onward =
    elim (Contains-push_cases pairs (u, v) (x, w) onward.0) [
      | inl old ↦ elim (Reaches-push pairs u v w y path onward.1) [
        | inl rest ↦ inl (Reaches-step pairs x w y old rest)
        | inr both ↦ inr (Reaches-step pairs x w u old both.0, both.1)
      ]
      | inr same ↦
          let at_u : x ≡ u = sym (ap (λ (p : Pair). p.0) same) in
          let to_v : v ≡ w = ap (λ (p : Pair). p.1) same in
          let here : Reaches pairs x u = record { path = []; onward = at_u } in
          elim (Reaches-push pairs u v w y path onward.1) [
            | inl rest ↦ inr (here, subst (λ (z : ℕ). Reaches pairs z y) (sym to_v) rest)
            | inr both ↦ inr (here, both.1)
          ]
    ]

-- one more pair closes no cycle where its second router doesn't reach its first
pub HasNoCycle-push : (pairs : List Pair) (u v : ℕ) → HasNoCycle pairs → ¬ Reaches pairs v u → HasNoCycle (pairs ++ (u, v) ∷ [])
HasNoCycle-push pairs u v acyclic apart x leads =
    elim (Contains-push_cases pairs (u, v) (x, leads.next) leads.first) [
      | inl old ↦ elim (Reaches-push pairs u v leads.next x leads.path leads.onward) [
        | inl rest ↦ acyclic x (Leads-step pairs x leads.next x old rest)
        | inr both ↦ apart (Reaches-trans pairs v x u both.1 (Reaches-step pairs x leads.next u old both.0))
      ]
      | inr same ↦
          let at_u : x ≡ u = sym (ap (λ (p : Pair). p.0) same) in
          let to_v : leads.next ≡ v = sym (ap (λ (p : Pair). p.1) same) in
          elim (Reaches-push pairs u v leads.next x leads.path leads.onward) [
            | inl rest ↦ apart (subst (λ (z : ℕ). Reaches pairs z u) to_v (subst (λ (z : ℕ). Reaches pairs leads.next z) at_u rest))
            | inr both ↦ apart (subst (λ (z : ℕ). Reaches pairs v z) at_u both.1)
          ]
    ]

-- every router of a path is reached from its first one
pub Reaches-at : (pairs : List Pair) (x y : ℕ) (path : List ℕ) → IsPath pairs x path y → (k d : ℕ) → k < length (x ∷ path) →
    Reaches pairs x (get_or (x ∷ path) k d)
Reaches-at pairs x y path onward zero d in' = Reaches-itself pairs x
Reaches-at pairs x y [] onward (suc k) d in' = absurd (omega (arith, in'))
Reaches-at pairs x y (w ∷ path) onward (suc k) d in' =
    Reaches-step pairs x w (get_or (w ∷ path) k d) onward.0 (Reaches-at pairs w y path onward.1 k d (omega (arith, in')))

-- the routers of a path are distinct where no router leads to itself
pub distinct_path : (pairs : List Pair) → HasNoCycle pairs → (x y : ℕ) (path : List ℕ) → IsPath pairs x path y →
    AllPairs (λ u v. u ≢ v) (x ∷ path)
distinct_path pairs acyclic x y [] onward =
    AllPairs-cons (λ u v. u ≢ v) x [] (λ k d in' same. omega (arith, in')) (λ i j d lt in' same. omega (arith, in'))
distinct_path pairs acyclic x y (w ∷ path) onward =
    AllPairs-cons (λ u v. u ≢ v) x (w ∷ path)
    (λ k d in' same. acyclic x (Leads-step pairs x w x onward.0 (subst (λ (z : ℕ). Reaches pairs w z) (sym same)
    (Reaches-at pairs w y path onward.1 k d in'))))
    (distinct_path pairs acyclic w y path onward.1)

-- the routers of a path are below n where its first one and the pairs are
pub path_below : (n : ℕ) (pairs : List Pair) → AreBelow n pairs → (x y : ℕ) (path : List ℕ) → x < n → IsPath pairs x path y →
    All (λ u. u < n) (x ∷ path)
path_below n pairs below x y [] lt onward = All-cons (λ u. u < n) x [] lt (All-nil (λ u. u < n))
path_below n pairs below x y (w ∷ path) lt onward =
    let step = All-contains (λ (p : Pair). (p.0 < n) × (p.1 < n)) pairs (x, w) below onward.0 in
    All-cons (λ u. u < n) x (w ∷ path) lt (path_below n pairs below w y path step.1 onward.1)

-- a path of pairs of n routers without a cycle has fewer than n steps
pub length-path : (n : ℕ) (pairs : List Pair) → AreBelow n pairs → HasNoCycle pairs → (x y : ℕ) (path : List ℕ) → x < n →
    IsPath pairs x path y →
    length path < n
length-path n pairs below acyclic x y path lt onward =
    omega (arith, length-le_from_distinct (x ∷ path) n (distinct_path pairs acyclic x y path onward) (path_below n pairs below x y path lt onward))

-- fewer pairs have no cycle either
pub HasNoCycle-front : (pairs more : List Pair) → HasNoCycle (pairs ++ more) → HasNoCycle pairs
HasNoCycle-front pairs more acyclic u leads =
    acyclic u (record {
      next = leads.next;
      path = leads.path;
      first = Contains-append_left pairs more (u, leads.next) leads.first;
      onward = IsPath-more pairs more leads.next u leads.path leads.onward;
    })

pub HasNoCycle-take : (pairs : List Pair) (m : ℕ) → HasNoCycle pairs → HasNoCycle (take m pairs)
HasNoCycle-take pairs m acyclic = HasNoCycle-front (take m pairs) (drop m pairs) (subst (λ (xs : List Pair). HasNoCycle xs) (sym
    (take-append-drop m pairs)) acyclic)
