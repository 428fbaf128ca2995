-- Numbers that come to a list.
use Rattle.std.specs.Prelude.{ℕ, ◌↔◌, ◌⊎◌, List, Contains}

-- to the numbers there come those of which this is so
abbrev pub AddsNumbers : (ℕ → Type 0) → List ℕ → List ℕ → Type 0
AddsNumbers IsNew old new = (h : ℕ) → Contains new h ↔ (Contains old h ⊎ IsNew h)

-- one of the things leads to h
pub record SomeLeadsTo {X : Type 0} (Leads : X → ℕ → Type 0) (things : List X) (h : ℕ) : Type 0 where
  pub thing : X
  pub among : Contains things thing
  pub leads : Leads thing h
