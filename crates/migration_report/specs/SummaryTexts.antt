-- What is printed of a planned network in place of its waves.
use Rattle.std.specs.Prelude.{ℕ, ◌-◌, List, [], ◌∷◌, ◌++◌, codes, decimal, slice_index}
use Rattle.order_core.specs.Rankings.{wave_count, wave_of}
use Rattle.printed_lines.specs.Texts.{line}
use Rattle.printed_lines.specs.Words.{router_word}
use Rattle.migration_report.specs.declared.summary.PlanCounts.{PlanCounts}

-- the lowest router of a wave: the first one, since they ascend
abbrev pub lowest_in : List ℕ → ℕ → ℕ
lowest_in ranks w = slice_index (wave_of ranks w) 0

-- how many routers were asked for, how many distinct prefixes the network has, how many branches led to its waves, how many
-- waves there are, and the names of the lowest routers of the first wave and of the last one
abbrev pub summary_text : List (List ℕ) → PlanCounts → List ℕ → List ℕ
summary_text names counts ranks =
    line (codes "sample") (decimal counts.routers ∷ [])
    ++ line (codes "prefixes") (decimal counts.prefixes ∷ [])
    ++ line (codes "branches") (decimal counts.branches ∷ [])
    ++ line (codes "waves") (decimal (wave_count ranks) ∷ [])
    ++ line (codes "first") (router_word names (lowest_in ranks 0) ∷ [])
    ++ line (codes "last") (router_word names (lowest_in ranks (wave_count ranks - 1)) ∷ [])
