-- What is read of files, with one file more.
use Rattle.std.proofs.Common.{◌≡◌, ℕ, ◌+◌, ◌<◌, false, List, [], ◌∷◌, ◌++◌, length, take, get_or, Contains, refl, sym, ap, ap₂, subst, ◌∙◌, arith, length-take-le, lt-ltb}
use Rattle.std.specs.Prelude.{nat_lt}
use Rattle.std.specs.List.{list_any}
use Rattle.std.proofs.lemmas.Bool.{false≢true, or_parts}
use Rattle.std.proofs.lemmas.List.{map-append, take_more}
use Rattle.std.proofs.lemmas.List.Elements.{All-nil, All-push}
use Rattle.std.proofs.lemmas.List.Folds.{list_any-append}
use Rattle.net_model.specs.Configuration.{Configuration}
use Rattle.net_model.proofs.Members.{Contains-none}
use Rattle.ios_lines.specs.declared.fault.Fault.{Fault}
use Rattle.ios_reader.specs.FaultyLines.{AreFaultyLines, AreLeastOnLines}
use Rattle.ios_reader.specs.Faults.{faults_in}
use Rattle.ios_reader.specs.Texts.{ReadsText}
use Rattle.ios_sections.specs.TextLines.{lines_in}
use Rattle.survey_report.specs.SurveyFiles.{AreFaultsOfFile, AreFaultsOfFiles, FileFaults, SurveyFile, is_faulty_file, survey_files}
use Rattle.survey_report.specs.steps.Reading.{AreFilesRead, FilesRead}
use Rattle.survey_report.proofs.PartFacts.{ArePartsOf-push}

-- ---- the files ----

files_push : (names texts : List (List ℕ)) (name text : List ℕ) → length names ≡ length texts →
    survey_files (names ++ name ∷ []) (texts ++ text ∷ []) ≡ survey_files names texts ++ record { name = name; text = text } ∷ []
files_push [] [] name text lengths = refl
files_push [] (t ∷ texts) name text lengths = absurd (omega (arith, lengths))
files_push (n ∷ names) [] name text lengths = absurd (omega (arith, lengths))
files_push (n ∷ names) (t ∷ texts) name text lengths =
    ap (λ (files : List SurveyFile). record { name = n; text = t } ∷ files) (files_push names texts name text (omega (arith, lengths)))

-- a file more in a loop over names and texts
pub files_more : (names texts : List (List ℕ)) (i : ℕ) (name text : List ℕ) → length names ≡ length texts → i < length texts →
    name ≡ get_or names i name → text ≡ get_or texts i text →
    survey_files (take (i + 1) names) (take (i + 1) texts)
    ≡ survey_files (take i names) (take i texts) ++ record { name = name; text = text } ∷ []
files_more names texts i name text lengths within named read =
    let within_names : i < length names = omega (arith, lengths, within) in
    ap₂ survey_files
    (take_more names i name within_names ∙ ap (λ (n : List ℕ). take i names ++ n ∷ []) (sym named))
    (take_more texts i text within ∙ ap (λ (t : List ℕ). take i texts ++ t ∷ []) (sym read))
    ∙ files_push (take i names) (take i texts) name text
    (length-take-le i names (omega (arith, within_names)) ∙ sym (length-take-le i texts (omega (arith, within))))

-- ---- what is read of them ----

pub nothing_read : AreFilesRead [] (record { configs = []; found = [] })
nothing_read = record { found = record { files_are = refl; each = All-nil AreFaultsOfFile }; configs = λ e. refl }

found_push : (files : List SurveyFile) (all : List FileFaults) (one : FileFaults) → AreFaultsOfFiles files all → AreFaultsOfFile one →
    AreFaultsOfFiles (files ++ one.file ∷ []) (all ++ one ∷ [])
found_push files all one are is = record {
  files_are = map-append (λ (x : FileFaults). x.file) all (one ∷ [])
      ∙ ap (λ (fs : List SurveyFile). fs ++ one.file ∷ []) are.files_are;
  each = All-push AreFaultsOfFile all one are.each is;
}

-- neither those before nor the last one
none_before : (all : List FileFaults) (one : FileFaults) → list_any is_faulty_file (all ++ one ∷ []) ≡ false →
    (list_any is_faulty_file all ≡ false) × (is_faulty_file one ≡ false)
none_before all one none =
    let parts = or_parts (list_any is_faulty_file all) (list_any is_faulty_file (one ∷ []))
    (sym (list_any-append is_faulty_file all (one ∷ [])) ∙ none) in
    (parts.0, (or_parts (is_faulty_file one) false parts.1).0)

no_faults : (text : List ℕ) → faults_in (lines_in text) ≡ [] → AreLeastOnLines (faults_in (lines_in text)) []
no_faults text none = record {
  ascending = λ i j d l m. absurd (omega (arith, m));
  each = λ f. (
    λ c. absurd (Contains-none f c),
    λ least. absurd (Contains-none f (subst (λ (l : List Fault). Contains l f) none least.among)),
  );
}

-- a file more that is read as these configurations
pub configs_read : (files : List SurveyFile) (before : FilesRead) (file : SurveyFile) (more : List Configuration) → AreFilesRead files before →
    ReadsText file.text more →
    AreFilesRead (files ++ file ∷ [])
    (record { configs = before.configs ++ more; found = before.found ++ record { file = file; faults = [] } ∷ [] })
configs_read files before file more are reads = record {
  found = found_push files before.found (record { file = file; faults = [] }) are.found (no_faults file.text reads.faultless);
  configs = λ none.
      ArePartsOf-push (λ (f : SurveyFile). ReadsText f.text) files file before.configs more
      (are.configs (none_before before.found (record { file = file; faults = [] }) none).0) reads;
}

some_faults : (faults : List Fault) → 0 < length faults → nat_lt 0 (length faults) ≡ false → ⊥
some_faults faults some none = false≢true (sym none ∙ lt-ltb 0 (length faults) some)

-- a file more that has these faulty lines
pub faults_read : (files : List SurveyFile) (before : FilesRead) (file : SurveyFile) (faults : List Fault) → AreFilesRead files before →
    AreFaultyLines file.text faults →
    AreFilesRead (files ++ file ∷ [])
    (record { configs = before.configs; found = before.found ++ record { file = file; faults = faults } ∷ [] })
faults_read files before file faults are faulty = record {
  found = found_push files before.found (record { file = file; faults = faults }) are.found faulty.all;
  configs = λ none. absurd (some_faults faults faulty.some (none_before before.found (record { file = file; faults = faults }) none).1);
}

-- a file more in a loop over them
pub read_next : (files : List SurveyFile) (i : ℕ) (file : SurveyFile) (longer : FilesRead) → i < length files → file ≡ get_or files i file →
    AreFilesRead (take i files ++ file ∷ []) longer → AreFilesRead (take (i + 1) files) longer
read_next files i file longer within read are =
    subst (λ (fs : List SurveyFile). AreFilesRead fs longer)
    (ap (λ (f : SurveyFile). take i files ++ f ∷ []) read ∙ sym (take_more files i file within)) are
