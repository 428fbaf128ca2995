-- The places of a ring.
use Rattle.std.specs.Prelude.{ℕ, ◌+◌, List, slice_index_or}

-- what stands after a place of a ring, and the first item after the last
abbrev pub next_at : {A : Type 0} → List A → ℕ → A → A
next_at ring place d = slice_index_or ring (place + 1) (slice_index_or ring 0 d)
