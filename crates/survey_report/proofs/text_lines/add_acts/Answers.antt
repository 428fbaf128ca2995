use Rattle.std.proofs.Common.{ℕ, List, [], ◌∷◌, ◌++◌, append_assoc, refl, ap, ◌∙◌}
use Rattle.std.specs.Prelude.{codes, decimal}
use Rattle.printed_lines.specs.Words.{joined}
use Rattle.printed_lines.proofs.TextSteps.{last_line}
use Rattle.text_survey.specs.SeenWords.{told_words}
use Rattle.survey_report.specs.TextLines.{acting_line}
use Rattle.survey_report.proofs.text_lines.add_acts.Goals as goal

pub returns : goal.returns
returns c =
    let old : List ℕ = c.args.text.now.items in
    let name : List ℕ = c.args.name.now in
    let own : List ℕ = told_words c.args.told.now in
    let words : List ℕ = joined (codes "acts" ∷ name ∷ decimal c.args.told.now.number ∷ []) in
    c.in_ok-push.ensures.items
    ∙ ap (λ (t : List ℕ). t ++ 10 ∷ [])
    (c.in_ok-add_told.ensures
    ∙ ap (λ (t : List ℕ). t ++ own)
    (c.in_ok-add_acting_words.ensures ∙ ap (λ (n : ℕ). old ++ joined (codes "acts" ∷ name ∷ decimal n ∷ [])) c.number.ensures)
    ∙ append_assoc old words own)
    ∙ last_line old (words ++ own) (acting_line name c.args.told.now) refl
