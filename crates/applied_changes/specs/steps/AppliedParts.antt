-- A text with the lines of changes put in, by the configurations that it holds.
use Rattle.std.specs.Prelude.{ℕ, List, [], ◌∷◌, ◌++◌, length}
use Rattle.igp_theory.specs.declared.phase.Phase.{Phase}
use Rattle.ios_sections.specs.TextLines.{Part}
use Rattle.ios_sections.specs.Sections.{sections_in}
use Rattle.ios_reader.specs.Configurations.{configuration_of}
use Rattle.ios_reader.specs.Places.{between, start_of}
use Rattle.applied_changes.specs.AppliedTexts.{block_for}

-- the text from a place on, each of these parts with its lines before its `end` line
abbrev pub applied_parts : (List ℕ → Phase) → List ℕ → ℕ → List Part → List ℕ
applied_parts phases text from [] = between text from (length text)
applied_parts phases text from (part ∷ more) =
    between text from (start_of text part.ends) ++ block_for phases (configuration_of (sections_in part))
    ++ applied_parts phases text (start_of text part.ends) more
