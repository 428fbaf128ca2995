use Rattle.std.proofs.Common.{take}
use Rattle.refutation_check.specs.steps.Names.{SayTurns}
use Rattle.refutation_check.specs.steps.Spans.{span_texts}
use Rattle.refutation_check.proofs.names.turns_of.Given as goal

abbrev pub invariant-loop-entry : goal.invariant-loop-entry
invariant-loop-entry l = SayTurns l.net (take l.entry-index (span_texts l.text l.entries)) l.turns.items
