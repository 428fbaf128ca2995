use Rattle.refutation_check.specs.steps.Spans.{span_texts}
use Rattle.refutation_check.proofs.StartReading.{TellSoFar}
use Rattle.refutation_check.proofs.start.start_told.Given as goal

abbrev pub invariant-loop-entry : goal.invariant-loop-entry
invariant-loop-entry l = TellSoFar l.net (span_texts l.text l.entries) l.entry-index l.start.items
