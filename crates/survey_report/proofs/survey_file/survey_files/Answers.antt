use Rattle.std.proofs.Common.{◌≡◌, ◌++◌, ◌<◌, ◌∷◌, length, List, [], ℕ, map, get_or, sym, ap, ◌∙◌, arith}
use Rattle.std.specs.Borrow.{Bor}
use Rattle.std.proofs.lemmas.List.{get_or_default, length-map, get_or-map}
use Rattle.survey_report.specs.SurveyFiles.{SurveyFile}
use Rattle.survey_report.proofs.ReadingFacts.{files_more}
use Rattle.survey_report.proofs.survey_file.survey_files.Goals as goal

pub loop-i-preserved : goal.loop-i-preserved
loop-i-preserved c =
    let words = c.args.names.now in
    let bytes_of : Bor (List ℕ) → List ℕ = λ name. name.now in
    let i = c.loop-i.i in
    let nothing : Bor (List ℕ) = record { ref_ptr = (0, 0); now = [] } in
    let item = get_or words i nothing in
    let name = c.as_bytes.result.now in
    let text = c.index-texts-i.result in
    let lengths : length (map bytes_of words) ≡ length c.args.texts.now = length-map words bytes_of ∙ c.requires.lengths in
    let within : i < length words = omega (arith, c.requires.lengths, c.loop-i-test.true) in
    let named : name ≡ get_or (map bytes_of words) i name =
    c.as_bytes.ensures.value ∙ ap bytes_of (get_or_default words i _ item within) ∙ sym (get_or-map bytes_of words i item name within) in
    c.in_ok-push.ensures.items
    ∙ ap (λ (t : List ℕ). c.loop-i.files.items ++ record { name = name; text = t } ∷ []) c.as_slice.ensures
    ∙ ap (λ (files : List SurveyFile). files ++ record { name = name; text = text } ∷ []) c.loop-i.invariant
    ∙ sym (files_more (map bytes_of words) c.args.texts.now i name text lengths c.loop-i-test.true named c.index-texts-i.is)
