-- Lists of first hops, by the number of the vertex towards which they lead.
use Rattle.std.specs.Prelude.{◌≡◌, ℕ, ◌<◌, ◌↔◌, List, [], length, Contains, slice_index_or}
use Rattle.walk_core.specs.steps.Ascending.{AreAscending}
use Rattle.walk_core.specs.Walks.{Arcs, FirstHop}

-- the list of v has the first hops towards it
abbrev pub ListFirstHops : Arcs → ℕ → List (List ℕ) → Type 0
ListFirstHops arc root lists = (v h : ℕ) → Contains (slice_index_or lists v []) h ↔ FirstHop arc root v h

-- the lists of the vertices below n
pub record AreFirstHops (arc : Arcs) (root n : ℕ) (lists : List (List ℕ)) : Type 0 where
  pub long : length lists ≡ n
  pub exact : (v : ℕ) → v < n → (h : ℕ) → Contains (slice_index_or lists v []) h ↔ FirstHop arc root v h
  pub ascending : AreAscending lists

-- the lists of each vertex below n
pub record AreAllHops (arc : Arcs) (n : ℕ) (all : List (List (List ℕ))) : Type 0 where
  pub long : length all ≡ n
  pub exact : (u : ℕ) → u < n → ListFirstHops arc u (slice_index_or all u [])
  pub ascending : (u : ℕ) → u < n → AreAscending (slice_index_or all u [])
