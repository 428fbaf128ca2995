-- What a chain is traced with.
use Rattle.std.specs.Prelude.{ℕ, List}

-- for each router a parent, or this number where it has none
pub record Parents : Type 0 where
  pub layers : List ℕ
  pub parents : List ℕ
  pub none : ℕ

abbrev pub parents_in : List ℕ → List ℕ → ℕ → Parents
parents_in layers parents none = record { layers = layers; parents = parents; none = none }

-- a chain of so many routers of the layers, in the first places of a list
pub record Trace : Type 0 where
  pub layers : List ℕ
  pub out : List ℕ
  pub count : ℕ

abbrev pub trace : List ℕ → List ℕ → ℕ → Trace
trace layers out count = record { layers = layers; out = out; count = count }
