-- How lists of pair numbers, one for each router, hold the successors of the routers.
use Rattle.std.specs.Prelude.{◌≡◌, ℕ, suc, ◌<◌, ◌==◌, if◌then◌else◌, List, [], ◌∷◌, length}
use Rattle.link_trail.specs.Lists.{list_at}
use Rattle.order_core.specs.Pairs.{Pair}

-- the numbers of the pairs from router u, where the pairs are numbered from s on
abbrev pub numbers_from : ℕ → ℕ → List Pair → List ℕ
numbers_from u s [] = []
numbers_from u s (pair ∷ pairs) = if pair.0 == u then s ∷ numbers_from u (suc s) pairs else numbers_from u (suc s) pairs

-- one list for each of n routers: the numbers of the pairs from it, in order
pub record AreSuccessors (n : ℕ) (pairs : List Pair) (lists : List (List ℕ)) : Type 0 where
  pub count : length lists ≡ n
  pub each : (u : ℕ) → u < n → list_at lists u ≡ numbers_from u 0 pairs
