-- The lines that take a router to a phase, by the tag of its IS-IS process and the number of its OSPF process.
use Rattle.std.specs.Prelude.{ℕ, List, [], ◌∷◌, ◌++◌, Option, Some, None}
use Rattle.net_model.specs.declared.bounds.TheConstants.{ISIS_DISTANCE}
use Rattle.igp_theory.specs.declared.phase.Phase.{Phase}
use Rattle.igp_theory.specs.declared.phase.Phase.TheVariants.{Old, Middle, New}
use Rattle.step_scripts.specs.Scripts.{isis_head, distance_line, ospf_change_lines}

-- the lines of a first change, where there is an IS-IS process
abbrev pub tag_lines : Option (List ℕ) → List (List ℕ)
tag_lines None = []
tag_lines (Some tag) = isis_head tag ∷ distance_line ISIS_DISTANCE ∷ []

-- the lines that lead to a phase
abbrev pub phase_lines : Phase → Option (List ℕ) → Option ℕ → List (List ℕ)
phase_lines Old tag process = []
phase_lines Middle tag process = tag_lines tag
phase_lines New tag process = tag_lines tag ++ ospf_change_lines process
