-- The lines that tell what is odd about the texts of files.
use Rattle.std.specs.Prelude.{ℕ, List, [], ◌∷◌, ◌++◌, codes, decimal, filter, if◌then◌else◌, map}
use Rattle.ios_sections.specs.TextLines.{counted_lines, lines_in}
use Rattle.printed_lines.specs.Words.{joined}
use Rattle.text_survey.specs.ActingForms.{acts}
use Rattle.text_survey.specs.Oddities.{is_flat, odd_numbers}
use Rattle.text_survey.specs.SeenWords.{told_words}
use Rattle.text_survey.specs.ToldLines.{ToldLine, told_lines}
use Rattle.survey_report.specs.SurveyFiles.{SurveyFile}

-- a line that holds a byte that no router prints
abbrev pub odd_line : List ℕ → ℕ → List ℕ
odd_line name number = joined (codes "odd" ∷ name ∷ decimal number ∷ [])

abbrev pub odd_lines : SurveyFile → List (List ℕ)
odd_lines file = map (odd_line file.name) (odd_numbers (counted_lines (lines_in file.text)))

-- a text that lost its indentation
abbrev pub flat_line : List ℕ → List ℕ
flat_line name = joined (codes "flat" ∷ name ∷ [])

abbrev pub flat_lines : SurveyFile → List (List ℕ)
flat_lines file = if is_flat (counted_lines (lines_in file.text)) then flat_line file.name ∷ [] else []

-- a line on which a router acts though it is skipped
abbrev pub acting_line : List ℕ → ToldLine → List ℕ
acting_line name line = joined (codes "acts" ∷ name ∷ decimal line.number ∷ []) ++ told_words line

abbrev pub acting_lines : SurveyFile → List (List ℕ)
acting_lines file = map (acting_line file.name) (filter acts (told_lines (lines_in file.text)))
