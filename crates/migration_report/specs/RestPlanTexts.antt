-- What is printed of what is planned of the rest of a migration that was stopped.
use Rattle.std.specs.Prelude.{ℕ, List}
use Rattle.igp_theory.specs.declared.phase.Phase.{Phase}
use Rattle.live_replan.specs.RestTexts.{rest_text}
use Rattle.order_search.specs.declared.found.Found.{Found}
use Rattle.order_search.specs.declared.found.Found.TheVariants.{Waves, Refuted, Spent as SpentTree}
use Rattle.plan_theory.specs.Plans.{fault_told}
use Rattle.plan_theory.specs.declared.planned.Planned.{Planned}
use Rattle.plan_theory.specs.declared.planned.Planned.TheVariants.{UnsoundOld, UnsoundNew, Searched}
use Rattle.refutation_check.specs.TreeTexts.{rest_tree_text}
use Rattle.migration_report.specs.EndTexts.{unsound_text}
use Rattle.migration_report.specs.declared.ends.End.TheVariants.{New, Start}

-- what was found between sound ends: the waves of the rest, or a tree with the line of the start
abbrev pub found_rest_text : List (List ℕ) → List Phase → Found → List ℕ
found_rest_text names start (Waves ranks pairs chain trail) = rest_text names start ranks chain
found_rest_text names start (Refuted tree) = rest_tree_text names start tree
found_rest_text names start (SpentTree tree) = rest_tree_text names start tree

-- or an end that isn't sound: the start, or the state in which every router is New
abbrev pub rest_plan_text : List (List ℕ) → List Phase → Planned → List ℕ
rest_plan_text names start (UnsoundOld fault) = unsound_text Start names (fault_told fault)
rest_plan_text names start (UnsoundNew fault) = unsound_text New names (fault_told fault)
rest_plan_text names start (Searched found) = found_rest_text names start found
