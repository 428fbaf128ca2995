-- Routers listed so that each stands after its predecessors: what is listed and what is left to wait for.
use Rattle.std.specs.Prelude.{◌≡◌, ◌≢◌, ℕ, zero, suc, ◌+◌, ◌<◌, ◌≤◌, ◌↔◌, ◌⊎◌, ◌==◌, if◌then◌else◌, Bool, true, List}
use Rattle.std.specs.Prelude.{length, slice_index, Contains, Option}
use Rattle.order_core.specs.Pairs.{Pair}
use Rattle.precedence_set.specs.steps.Walking.{pair_at}

-- router u stands at one of the first places of the list
abbrev pub StandsBelow : List ℕ → ℕ → ℕ → Type 0
StandsBelow order count u = (i : ℕ) × (i < count) × (slice_index order i ≡ u)

-- how many of the first k pairs are into v, and not gone
abbrev pub left_into : List Pair → (ℕ → Bool) → ℕ → ℕ → ℕ
left_into pairs gone v zero = 0
left_into pairs gone v (suc k) = left_into pairs gone v k + (if (pair_at pairs k).1 == v then (if gone k then 0 else 1) else 0)

-- each router has the count of the pairs into it that aren't gone
pub record AreLeftCounts (pairs : List Pair) (IsGone : ℕ → Type 0) (counts : List ℕ) : Type 0 where
  pub gone : ℕ → Bool
  pub tells : (i : ℕ) → i < length pairs → (gone i ≡ true) ↔ IsGone i
  pub each : (v : ℕ) → v < length counts → slice_index counts v ≡ left_into pairs gone v (length pairs)

-- a pair is gone where its first router stands at one of the first k places
abbrev pub IsGone : List Pair → List ℕ → ℕ → ℕ → Type 0
IsGone pairs order k i = StandsBelow order k (pair_at pairs i).0

-- the routers before a place of a list are passed, and of the one at the place the pairs of numbers below `start`
pub record Passing : Type 0 where
  pub order : List ℕ
  pub place : ℕ
  pub start : ℕ

abbrev pub passing : List ℕ → ℕ → ℕ → Passing
passing order place start = record { order = order; place = place; start = start }

-- then these pairs are gone
abbrev pub IsGoneBy : List Pair → Passing → ℕ → Type 0
IsGoneBy pairs p i = IsGone pairs p.order p.place i ⊎ (((pair_at pairs i).0 ≡ slice_index p.order p.place) × (i < p.start))

-- the routers at the first places of a list, and how many pairs each router waits for
pub record Queue : Type 0 where
  pub counts : List ℕ
  pub order : List ℕ
  pub count : ℕ

abbrev pub queue : List ℕ → List ℕ → ℕ → Queue
queue counts order count = record { counts = counts; order = order; count = count }

-- the first places list the routers below r that wait for no pair, each once
pub record AreFree (counts order : List ℕ) (count r : ℕ) : Type 0 where
  pub within : count ≤ r
  pub below : (j : ℕ) → j < count → slice_index order j < r
  pub distinct : (i j : ℕ) → i < j → j < count → slice_index order i ≢ slice_index order j
  pub none_left : (j : ℕ) → j < count → slice_index counts (slice_index order j) ≡ 0
  pub listed : (v : ℕ) → v < r → slice_index counts v ≡ 0 → StandsBelow order count v

-- the first places list distinct routers below n, those for which no pair is left, each after all its predecessors
pub record IsListing (n : ℕ) (pairs : List Pair) (q : Queue) : Type 0 where
  pub below : (j : ℕ) → j < q.count → slice_index q.order j < n
  pub distinct : (i j : ℕ) → i < j → j < q.count → slice_index q.order i ≢ slice_index q.order j
  pub none_left : (j : ℕ) → j < q.count → slice_index q.counts (slice_index q.order j) ≡ 0
  pub listed : (v : ℕ) → v < n → slice_index q.counts v ≡ 0 → StandsBelow q.order q.count v
  pub after : (j : ℕ) → j < q.count → (u : ℕ) → Contains pairs (u, slice_index q.order j) → StandsBelow q.order j u

-- a walk over the pairs from the router at a place, which has come to this pair
pub record Stop : Type 0 where
  pub place : ℕ
  pub at : Option ℕ

abbrev pub stop : ℕ → Option ℕ → Stop
stop place at = record { place = place; at = at }

-- the list has every router below n once, each after all its predecessors
pub record IsTopological (n : ℕ) (pairs : List Pair) (order : List ℕ) : Type 0 where
  pub whole : length order ≡ n
  pub below : (j : ℕ) → j < n → slice_index order j < n
  pub all : (u : ℕ) → u < n → StandsBelow order n u
  pub distinct : (i j : ℕ) → i < j → j < n → slice_index order i ≢ slice_index order j
  pub after : (j : ℕ) → j < n → (u : ℕ) → Contains pairs (u, slice_index order j) → StandsBelow order j u
