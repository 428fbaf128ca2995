-- Pairs of routers, "u before v", and where they lead.
use Rattle.std.specs.Prelude.{◌≡◌, ℕ, ◌<◌, List, [], ◌∷◌, All, Contains}

-- the first router of a pair is assumed before the second
abbrev pub Pair : Type 0
Pair = ℕ × ℕ

-- each router of a path is assumed after the one before it: from u over these routers, the last of them v
abbrev pub IsPath : List Pair → ℕ → List ℕ → ℕ → Type 0
IsPath pairs u [] v = u ≡ v
IsPath pairs u (w ∷ path) v = Contains pairs (u, w) × IsPath pairs w path v

-- pairs lead from u to v: one pair or several, end to end
pub record Leads (pairs : List Pair) (u v : ℕ) : Type 0 where
  pub next : ℕ
  pub path : List ℕ
  pub first : Contains pairs (u, next)
  pub onward : IsPath pairs next path v

-- u is v, or pairs lead from u to v
pub record Reaches (pairs : List Pair) (u v : ℕ) : Type 0 where
  pub path : List ℕ
  pub onward : IsPath pairs u path v

-- no router leads to itself
abbrev pub HasNoCycle : List Pair → Type 0
HasNoCycle pairs = (u : ℕ) → ¬ Leads pairs u u

-- the pairs are of routers below n
abbrev pub AreBelow : ℕ → List Pair → Type 0
AreBelow n pairs = All (λ (p : Pair). (p.0 < n) × (p.1 < n)) pairs
