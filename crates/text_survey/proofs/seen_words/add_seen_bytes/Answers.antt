use Rattle.std.proofs.Common.{ℕ, List, ◌++◌, append-nil, ap, sym, ◌∙◌}
use Rattle.std.proofs.lemmas.List.{drop_all}
use Rattle.text_survey.specs.steps.SeenBytes.{seen_from}
use Rattle.text_survey.proofs.SeenFacts.{words_seen}
use Rattle.text_survey.proofs.seen_words.add_seen_bytes.Goals as goal

pub returns : goal.returns
returns c =
    sym (append-nil c.loop-byte.text.items)
    ∙ ap (λ (rest : List ℕ). c.loop-byte.text.items ++ seen_from c.loop-byte.inside rest)
    (sym (drop_all c.loop-byte.byte-index c.args.bytes.now c.loop-byte-test.false))
    ∙ c.loop-byte.invariant
    ∙ ap (λ (s : List ℕ). c.args.text.now.items ++ s) (words_seen c.args.bytes.now)
