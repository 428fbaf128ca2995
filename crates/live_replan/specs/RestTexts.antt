-- The waves of what is left of a migration, printed without the routers that are New at its start.
use Rattle.std.specs.Prelude.{ℕ, Bool, true, false, if◌then◌else◌, List, [], ◌∷◌, ◌++◌, slice_index_or, map, filter, find, option_to_list, codes}
use Rattle.std.specs.List.{list_any}
use Rattle.order_core.specs.Rankings.{wave_of}
use Rattle.igp_theory.specs.declared.phase.Phase.{Phase}
use Rattle.igp_theory.specs.declared.phase.Phase.TheVariants.{Old, Middle, New}
use Rattle.printed_lines.specs.Texts.{text_of}
use Rattle.step_scripts.specs.WavesTexts.{named_line, wave_lines, waves_in}

-- whether something is left to do in a phase
abbrev pub is_left : Phase → Bool
is_left Old = true
is_left Middle = true
is_left New = false

-- whether something is left to do on router u
abbrev pub has_rest : List Phase → ℕ → Bool
has_rest start u = is_left (slice_index_or start u New)

-- the routers with something left to do
abbrev pub rest_of : List Phase → List ℕ → List ℕ
rest_of start routers = filter (has_rest start) routers

-- the chain: where it is a single router that is New, the lowest-numbered router of the one wave that isn't stands for it
abbrev pub rest_chain : List Phase → List ℕ → List ℕ → List ℕ
rest_chain start ranks (u ∷ []) = if has_rest start u then u ∷ [] else option_to_list (find (has_rest start) (wave_of ranks 0))
rest_chain start ranks chain = chain

-- the first line
abbrev pub rest_header : List ℕ
rest_header = codes "rest 1"

-- the lines behind it: of each wave, and of the chain
abbrev pub rest_lines : List (List ℕ) → List Phase → List ℕ → List ℕ → List (List ℕ)
rest_lines names start ranks chain =
    wave_lines names (map (rest_of start) (waves_in ranks)) ++ named_line names (codes "chain") (rest_chain start ranks chain) ∷ []

-- the text; where every router is New it says that all is done
abbrev pub rest_text : List (List ℕ) → List Phase → List ℕ → List ℕ → List ℕ
rest_text names start ranks chain =
    text_of (rest_header ∷ (if list_any is_left start then rest_lines names start ranks chain else codes "done" ∷ []))
