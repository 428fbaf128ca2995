-- Marks of routers: router r is marked where place r is true.
use Rattle.std.specs.Prelude.{◌≡◌, ℕ, true, Bool, false, List, slice_index_or, count_by}

-- router r is marked
abbrev pub IsMarked : List Bool → ℕ → Type 0
IsMarked marks r = slice_index_or marks r false ≡ true

-- how many routers are marked
abbrev pub marked_count : List Bool → ℕ
marked_count marks = count_by (λ b. b) marks
