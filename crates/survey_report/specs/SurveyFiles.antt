-- Files of configurations, and what their texts are read as.
use Rattle.std.specs.Prelude.{◌≡◌, ℕ, Bool, List, [], ◌∷◌, All, length, map, nat_lt}
use Rattle.ios_lines.specs.declared.fault.Fault.{Fault}
use Rattle.ios_sections.specs.TextLines.{lines_in}
use Rattle.ios_reader.specs.Faults.{faults_in}
use Rattle.ios_reader.specs.FaultyLines.{AreLeastOnLines}
use Rattle.ios_reader.specs.Texts.{ReadsText}
use Rattle.net_model.specs.Configuration.{Configuration}
use Rattle.survey_report.specs.Parts.{ArePartsOf}

-- a file: its name as the call has it, and its text
pub record SurveyFile : Type 0 where
  pub name : List ℕ
  pub text : List ℕ

-- files of these names, with these texts
abbrev pub survey_files : List (List ℕ) → List (List ℕ) → List SurveyFile
survey_files (name ∷ names) (text ∷ texts) = record { name = name; text = text } ∷ survey_files names texts
survey_files _ _ = []

-- no text has a faulty line, and these are the configurations of all, file by file
abbrev pub ReadsFileTexts : List SurveyFile → List Configuration → Type 0
ReadsFileTexts = ArePartsOf (λ (file : SurveyFile). ReadsText file.text)

-- a file with some faults
pub record FileFaults : Type 0 where
  pub file : SurveyFile
  pub faults : List Fault

-- they are all its faulty lines, ascending, each once with its least kind; none where it has none
abbrev pub AreFaultsOfFile : FileFaults → Type 0
AreFaultsOfFile one = AreLeastOnLines (faults_in (lines_in one.file.text)) one.faults

-- the file has a faulty line
abbrev pub is_faulty_file : FileFaults → Bool
is_faulty_file one = nat_lt 0 (length one.faults)

-- the faulty lines of each of the files, in their order
pub record AreFaultsOfFiles (files : List SurveyFile) (all : List FileFaults) : Type 0 where
  pub files_are : map (λ (one : FileFaults). one.file) all ≡ files
  pub each : All AreFaultsOfFile all
