-- Going on through the lines of a text to the lines of faults.
use Rattle.std.specs.Prelude.{◌≡◌, ℕ, ◌<◌, ◌≤◌, List, length, slice_index_or}
use Rattle.ios_lines.specs.declared.fault.Fault.{Fault}
use Rattle.text_survey.specs.ToldLines.{ToldLine, from_line}

-- from the lines of the faults at place i and behind it on, what is left of the lines is what the whole text has
abbrev pub LeavesFrom : List Fault → List ToldLine → ℕ → List ToldLine → Type 0
LeavesFrom faults told i left =
    (k : ℕ) (d : Fault) → i ≤ k → k < length faults →
    from_line (slice_index_or faults k d).line left ≡ from_line (slice_index_or faults k d).line told
