-- Counts of the faults of a sink.
use Rattle.std.specs.Prelude.{◌≡◌, ℕ, ◌+◌, ◌<◌, ◌⊎◌, min}

-- a count of faults rose: it is greater afterwards, or it stands at its last value, 2^64 - 1
abbrev pub Rose : ℕ → ℕ → Type 0
Rose before after = (before < after) ⊎ (after ≡ 18446744073709551615)

-- one more, until the last value
abbrev pub next_count : ℕ → ℕ
next_count n = min (n + 1) 18446744073709551615
