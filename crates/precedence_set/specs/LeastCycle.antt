-- The cycle that a pair (u, v) closes: from v back to u, each time to the lowest-numbered router.
use Rattle.std.specs.Prelude.{◌≡◌, ◌≢◌, ℕ, ◌≤◌, List, [], ◌∷◌, Contains}
use Rattle.order_core.specs.Pairs.{Pair, Reaches}

-- w is assumed after x, and it is u or leads to u
pub record LeadsBack (pairs : List Pair) (u x w : ℕ) : Type 0 where
  pub follows : Contains pairs (x, w)
  pub reaches : Reaches pairs w u

-- the lowest-numbered such router
pub record IsLowestBack (pairs : List Pair) (u x w : ℕ) : Type 0 where
  pub back : LeadsBack pairs u x w
  pub lowest : (q : ℕ) → LeadsBack pairs u x q → w ≤ q

-- from x on one goes each time to the lowest-numbered such router, over these routers up to but without u
abbrev pub GoesBack : List Pair → ℕ → ℕ → List ℕ → Type 0
GoesBack pairs u x [] = IsLowestBack pairs u x u
GoesBack pairs u x (w ∷ rest) = (w ≢ u) × IsLowestBack pairs u x w × GoesBack pairs u w rest

-- the cycle of the pair (u, v): u, v, and then back from v
pub record IsLeastCycle (pairs : List Pair) (u v : ℕ) (cycle : List ℕ) : Type 0 where
  pub rest : List ℕ
  pub begins : cycle ≡ u ∷ v ∷ rest
  pub goes : GoesBack pairs u v rest
