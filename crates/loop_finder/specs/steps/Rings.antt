-- The turns of a ring.
use Rattle.std.specs.Prelude.{ℕ, ◌+◌, List, slice_index, slice_index_or}

-- what stands after a place of a ring: the next router, and the first one after the last
abbrev pub next_in : List ℕ → ℕ → ℕ
next_in routers place = slice_index_or routers (place + 1) (slice_index routers 0)
