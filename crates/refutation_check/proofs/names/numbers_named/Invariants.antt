use Rattle.std.proofs.Common.{take}
use Rattle.refutation_check.specs.steps.Names.{NameNumbers}
use Rattle.refutation_check.specs.steps.Spans.{span_texts}
use Rattle.refutation_check.proofs.names.numbers_named.Given as goal

abbrev pub invariant-loop-name : goal.invariant-loop-name
invariant-loop-name l = NameNumbers l.items l.net (take l.name-index (span_texts l.text l.names)) l.numbers.items
