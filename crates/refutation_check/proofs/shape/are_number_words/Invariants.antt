use Rattle.std.proofs.Common.{take, All}
use Rattle.plan_theory.specs.Numbers.{IsNumberWord}
use Rattle.refutation_check.specs.steps.Spans.{span_texts}
use Rattle.refutation_check.proofs.shape.are_number_words.Given as goal

abbrev pub invariant-loop-word : goal.invariant-loop-word
invariant-loop-word l = All (IsNumberWord l.items) (take l.word-index (span_texts l.text l.words))
