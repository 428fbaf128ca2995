-- What is assumed, counted for each pair of routers.
use Rattle.std.specs.Prelude.{◌≡◌, ℕ, ◌+◌, ◌*◌, ◌<◌, ◌≤◌, ◌==◌, Bool, ◌&&◌, if◌then◌else◌, List, [], ◌∷◌, length}
use Rattle.std.specs.Prelude.{slice_index}
use Rattle.order_core.specs.Pairs.{Pair, AreBelow}
use Rattle.refutation_check.specs.declared.assumed.Assumed.TheInside.{Inside}

-- pairs of so many routers, in the order in which they were assumed; one may stand twice
pub record Assumptions : Type 0 where
  pub routers : ℕ
  pub pairs : List Pair

-- whether a pair is that of u and v
abbrev pub is_pair : ℕ → ℕ → Pair → Bool
is_pair u v p = p.0 == u && p.1 == v

-- how often a pair is assumed
abbrev pub times : List Pair → ℕ → ℕ → ℕ
times [] u v = 0
times (p ∷ pairs) u v = (if is_pair u v p then 1 else 0) + times pairs u v

-- the counts, row by row, are how often each pair is assumed
pub record ArePairCounts (n : ℕ) (pairs : List Pair) (counts : List ℕ) : Type 0 where
  pub many : length counts ≡ n * n
  pub each : (u v : ℕ) → u < n → v < n → slice_index counts (u * n + v) ≡ times pairs u v

abbrev pub assumptions_of : Inside → Assumptions
assumptions_of a = record { routers = a.routers; pairs = a.pairs.items }

-- what the fields keep
pub record AreHeldCounts (a : Inside) : Type 0 where
  pub few : a.routers ≤ 1000
  pub below : AreBelow a.routers a.pairs.items
  pub counts : ArePairCounts a.routers a.pairs.items a.counts.items
