use Rattle.refutation_check.specs.steps.Spans.{span_texts}
use Rattle.refutation_check.proofs.StartReading.{StandSoFar}
use Rattle.refutation_check.proofs.start.stand_in_order.Given as goal

abbrev pub invariant-loop-word : goal.invariant-loop-word
invariant-loop-word l = StandSoFar l.net (span_texts l.text l.words) l.word-index l.most
