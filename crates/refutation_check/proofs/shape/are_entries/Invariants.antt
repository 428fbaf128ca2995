use Rattle.std.proofs.Common.{take, All}
use Rattle.refutation_check.specs.TreeLines.{IsSomeEntry}
use Rattle.refutation_check.specs.steps.Spans.{span_texts}
use Rattle.refutation_check.proofs.shape.are_entries.Given as goal

abbrev pub invariant-loop-word : goal.invariant-loop-word
invariant-loop-word l = All IsSomeEntry (take l.word-index (span_texts l.text l.words))
