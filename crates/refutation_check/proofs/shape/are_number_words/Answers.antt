use Rattle.std.proofs.Common.{ℕ, List, [], All, refl, sym, ◌∙◌, subst}
use Rattle.std.proofs.lemmas.Bool.{false≢true}
use Rattle.std.proofs.lemmas.List.Elements.{All-more}
use Rattle.plan_theory.specs.Numbers.{IsNumberWord}
use Rattle.refutation_check.specs.steps.Spans.{span_texts}
use Rattle.refutation_check.proofs.SpanPlaces.{word_in, word_at, all_words}
use Rattle.refutation_check.proofs.shape.are_number_words.Goals as goal

pub returns-then-not-is_number_word : goal.returns-then-not-is_number_word
returns-then-not-is_number_word c =
    let i = c.loop-word.word-index in (
      λ e. absurd (false≢true e),
      λ all. sym c.if-not-is_number_word.true ∙ c.is_number_word.ensures.1
          (subst (IsNumberWord c.args.items) (sym (word_at c.args.text.now c.args.words.now i c.loop-word-test.true c.bytes_at.ensures))
          (all i [] (word_in c.args.text.now c.args.words.now i c.loop-word-test.true))),
    )

pub loop-word-preserved : goal.loop-word-preserved
loop-word-preserved c =
    let i = c.loop-word.word-index in
    All-more (IsNumberWord c.args.items) (span_texts c.args.text.now c.args.words.now) i [] (word_in c.args.text.now c.args.words.now i c.loop-word-test.true)
    c.loop-word.invariant
    (subst (IsNumberWord c.args.items) (word_at c.args.text.now c.args.words.now i c.loop-word-test.true c.bytes_at.ensures)
    (c.is_number_word.ensures.0 c.if-not-is_number_word.false))

pub returns : goal.returns
returns c = (
  λ e. subst (λ (l : List (List ℕ)). All (IsNumberWord c.args.items) l)
      (all_words c.args.text.now c.args.words.now c.loop-word.word-index c.loop-word-test.false)
      c.loop-word.invariant,
  λ all. refl,
)
