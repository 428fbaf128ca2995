-- The survey of files begins with the faulty line that every other command refuses.
use Rattle.std.proofs.Common.{◌≡◌, ◌∙◌, ℕ, List, [], ◌∷◌, ◌++◌, All, Contains, ap, append_assoc, arith, length, map, refl, subst, sym}
use Rattle.std.specs.List.{flat_map}
use Rattle.std.specs.Prelude.{codes, decimal}
use Rattle.std.proofs.lemmas.List.Elements.{All-head, All-tail}
use Rattle.net_model.proofs.Members.{Contains-none}
use Rattle.net_model.specs.Configuration.{Configuration}
use Rattle.ios_lines.specs.FaultOrder.{fault_at}
use Rattle.ios_lines.specs.declared.fault.Fault.{Fault}
use Rattle.ios_lines.specs.declared.kind.ReadKind.{ReadKind}
use Rattle.ios_sections.specs.TextLines.{lines_in}
use Rattle.ios_reader.specs.Faults.{faults_in}
use Rattle.ios_reader.specs.FaultyLines.{AreFaultyLines, AreLeastOnLines}
use Rattle.ios_reader.specs.Texts.{IsRefusedText, ReadsText}
use Rattle.ios_reader.proofs.FaultyLineFacts.{first_refused, some_told}
use Rattle.ios_reader.proofs.TextLaws.{one_refusal, read_or_refused}
use Rattle.printed_lines.specs.Texts.{text_of}
use Rattle.printed_lines.specs.Words.{joined}
use Rattle.refused_texts.specs.Kinds.{read_kind_name}
use Rattle.text_survey.specs.ToldLines.{told_lines}
use Rattle.survey_report.specs.FaultTexts.{fault_count_line, fault_line, fault_lines, words_at_line}
use Rattle.survey_report.specs.SurveyFiles.{AreFaultsOfFile, FileFaults, ReadsFileTexts, SurveyFile, survey_files}
use Rattle.survey_report.specs.SurveyTexts.{IsSurveyText, SurveyText}
use Rattle.survey_report.specs.SurveyTexts.IsSurveyText.{faulty, read}
use Rattle.migrate_cli.specs.Configurations.{IsFirstRefused, line_fault}
use Rattle.migrate_cli.specs.Configurations.IsFirstRefused.{here, later}
use Rattle.migrate_cli.specs.SurveyPromise.{TellsFirstFault}

-- ---- one text ----

-- the first faulty line of a text that is refused is the one that it is refused for
first_told : (text : List ℕ) (l : ℕ) (k : ReadKind) (told : List Fault) → AreLeastOnLines (faults_in (lines_in text)) told → IsRefusedText text l k →
    (more : List Fault) × (told ≡ fault_at l k ∷ more)
first_told text l k [] are refused =
    let some = some_told (faults_in (lines_in text)) [] are
    (λ none. Contains-none (fault_at l k) (subst (λ (faults : List Fault). Contains faults (fault_at l k)) none refused.among)) in
    absurd (omega (arith, some))
first_told text l k (fault ∷ more) are refused =
    let all : AreFaultyLines text (fault ∷ more) = record { some = omega arith; all = are } in
    let same = one_refusal text fault.line l fault.kind k (first_refused text fault more all) refused in
    (more, λ i. fault_at (same.0 i) (same.1 i) ∷ more)

-- a text that is read has none
none_told : (text : List ℕ) (configs : List Configuration) (told : List Fault) → ReadsText text configs →
    AreLeastOnLines (faults_in (lines_in text)) told → told ≡ []
none_told text configs [] reads are = refl
none_told text configs (fault ∷ more) reads are =
    let among : Contains (faults_in (lines_in text)) fault = ((are.each fault).0 (0, omega arith, refl)).among in
    absurd (Contains-none fault (subst (λ (faults : List Fault). Contains faults fault) reads.faultless among))

-- ---- several files ----

-- files that are read aren't refused
none_read : {l : ℕ} {k : ReadKind} {names texts : List (List ℕ)} {file : List ℕ} → IsFirstRefused (line_fault l k) names texts file →
    (configs : List Configuration) → ReadsFileTexts (survey_files names texts) configs → ⊥
none_read {l = l} {k = k} (here {text = text} refused) configs reads = read_or_refused text reads.one l k reads.is_one refused
none_read (later _ refused) configs reads = none_read refused reads.other reads.is_other

-- how a line begins that tells a faulty line
abbrev fault_words : List ℕ → ℕ → ReadKind → List ℕ
fault_words file l k = joined (codes "fault" ∷ file ∷ decimal l ∷ read_kind_name k ∷ [])

-- lines begin with one that tells it
record BeginSo (lines : List (List ℕ)) (words : List ℕ) : Type 0 where
  more : List ℕ
  rest : List (List ℕ)
  lines_are : lines ≡ (words ++ more) ∷ rest

begin_so : {l : ℕ} {k : ReadKind} {names texts : List (List ℕ)} {file : List ℕ} → IsFirstRefused (line_fault l k) names texts file →
    (all : List FileFaults) → map (λ (one : FileFaults). one.file) all ≡ survey_files names texts → All AreFaultsOfFile all →
    BeginSo (flat_map fault_lines all) (fault_words file l k)
begin_so (here _) [] files_are each = let none = ap length files_are in absurd (omega (arith, none))
begin_so (later _ _) [] files_are each = let none = ap length files_are in absurd (omega (arith, none))
begin_so {l} {k} (here {file = file} {text = text} refused) (one ∷ others) files_are each =
    let file_is : one.file ≡ record { name = file; text = text } = cc files_are in
    let text_is : one.file.text ≡ text = ap (λ (f : SurveyFile). f.text) file_is in
    let lines = told_lines (lines_in one.file.text) in
    let first = first_told one.file.text l k one.faults (All-head AreFaultsOfFile one others each)
    (subst (λ t. IsRefusedText t l k) (sym text_is) refused) in
    let rest = map (fault_line one.file.name lines) first.0 ++ flat_map fault_lines others in
    record {
      more = words_at_line l lines;
      rest = rest;
      lines_are =
          ap (λ (faults : List Fault). map (fault_line one.file.name lines) faults ++ flat_map fault_lines others) first.1
          ∙ ap (λ (f : SurveyFile). (fault_words f.name l k ++ words_at_line l lines) ∷ rest) file_is;
    }
begin_so (later {file = name} {text = text} {files = names} {texts = texts} {configs = configs} reads refused) (one ∷ others) files_are each =
    let file_is : one.file ≡ record { name = name; text = text } = cc files_are in
    let rest_are : map (λ (some : FileFaults). some.file) others ≡ survey_files names texts = cc files_are in
    let text_is : one.file.text ≡ text = ap (λ (f : SurveyFile). f.text) file_is in
    let lines = told_lines (lines_in one.file.text) in
    let none = none_told one.file.text configs one.faults (subst (λ t. ReadsText t configs) (sym text_is) reads)
    (All-head AreFaultsOfFile one others each) in
    let next = begin_so refused others rest_are (All-tail AreFaultsOfFile one others each) in
    record {
      more = next.more;
      rest = next.rest;
      lines_are =
          ap (λ (faults : List Fault). map (fault_line one.file.name lines) faults ++ flat_map fault_lines others) none ∙ next.lines_are;
    }

pub first_fault_told : (names texts : List (List ℕ)) (survey : SurveyText) → IsSurveyText (survey_files names texts) survey →
    TellsFirstFault names texts survey.text
first_fault_told names texts survey (read configs reads _) file l k first = absurd (none_read first configs reads)
first_fault_told names texts survey (faulty all are some is) file l k first =
    let begin = begin_so first all are.files_are are.each in
    let words = fault_words file l k in
    let rest = text_of (begin.rest ++ fault_count_line all ∷ []) in (
      begin.more ++ 10 ∷ rest,
      ap (λ (s : SurveyText). s.text) is
          ∙ ap (λ (lines : List (List ℕ)). text_of (lines ++ fault_count_line all ∷ [])) begin.lines_are
          ∙ append_assoc (words ++ begin.more) (10 ∷ []) rest
          ∙ append_assoc words begin.more (10 ∷ rest),
    )
