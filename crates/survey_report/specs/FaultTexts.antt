-- How the faulty lines of files are told.
use Rattle.std.specs.Prelude.{ℕ, List, [], ◌∷◌, ◌++◌, codes, count_by, decimal, flat_map, if◌then◌else◌, length, map, nat_eq}
use Rattle.ios_lines.specs.declared.fault.Fault.{Fault}
use Rattle.ios_sections.specs.TextLines.{lines_in}
use Rattle.printed_lines.specs.Words.{joined}
use Rattle.printed_lines.specs.Texts.{text_of}
use Rattle.refused_texts.specs.Kinds.{read_kind_name}
use Rattle.text_survey.specs.SeenWords.{told_words}
use Rattle.text_survey.specs.ToldLines.{ToldLine, from_line, told_lines}
use Rattle.survey_report.specs.SurveyFiles.{FileFaults, is_faulty_file}

-- the words of the first of some lines, where it has this number
abbrev pub words_if_at : ℕ → List ToldLine → List ℕ
words_if_at number [] = []
words_if_at number (line ∷ _) = if nat_eq line.number number then told_words line else []

-- the words of the line of this number, none where no line of a configuration has it: those of its section's first line come first
abbrev pub words_at_line : ℕ → List ToldLine → List ℕ
words_at_line number lines = words_if_at number (from_line number lines)

-- a faulty line: its file, its number and the least kind
abbrev pub words_of_fault : List ℕ → Fault → List ℕ
words_of_fault name fault = joined (codes "fault" ∷ name ∷ decimal fault.line ∷ read_kind_name fault.kind ∷ [])

-- and what stands there
abbrev pub fault_line : List ℕ → List ToldLine → Fault → List ℕ
fault_line name lines fault = words_of_fault name fault ++ words_at_line fault.line lines

-- the lines that tell the faulty lines of a file
abbrev pub fault_lines : FileFaults → List (List ℕ)
fault_lines one = map (fault_line one.file.name (told_lines (lines_in one.file.text))) one.faults

-- how many there are, and in how many files
abbrev pub fault_count : List FileFaults → ℕ
fault_count all = length (flat_map (λ (one : FileFaults). one.faults) all)

abbrev pub fault_count_line : List FileFaults → List ℕ
fault_count_line all =
    joined (codes "faults" ∷ decimal (fault_count all) ∷ codes "in" ∷ decimal (count_by is_faulty_file all) ∷ codes "files" ∷ [])

-- all of them, and their count
abbrev pub faults_text : List FileFaults → List ℕ
faults_text all = text_of (flat_map fault_lines all ++ fault_count_line all ∷ [])
