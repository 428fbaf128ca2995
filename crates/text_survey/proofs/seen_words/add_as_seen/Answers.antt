use Rattle.std.proofs.Common.{ℕ, List, [], ◌∷◌, ◌++◌, append_assoc, ap, ◌∙◌}
use Rattle.text_survey.proofs.SeenFacts.{words_stand}
use Rattle.text_survey.proofs.seen_words.add_as_seen.Goals as goal

pub returns : goal.returns
returns c =
    let old : List ℕ = c.args.text.now.items in
    c.in_ok-extend_from_slice.ensures.items
    ∙ ap (λ (t : List ℕ). t ++ c.behind_blanks-words.result.now) c.in_ok-push.ensures.items
    ∙ append_assoc old (32 ∷ []) c.behind_blanks-words.result.now
    ∙ ap (λ (w : List ℕ). old ++ 32 ∷ w) c.behind_blanks-words.ensures
    ∙ ap (λ (t : List ℕ). old ++ t) (words_stand c.args.bytes.now c.requires)
