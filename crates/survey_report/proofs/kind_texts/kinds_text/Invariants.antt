use Rattle.std.proofs.Common.{take}
use Rattle.survey_report.specs.KindTexts.{AreKindTexts}
use Rattle.survey_report.proofs.kind_texts.kinds_text.Given as goal

abbrev pub invariant-loop-kind : goal.invariant-loop-kind
invariant-loop-kind l = AreKindTexts l.read (take l.kind-index l.kinds) l.text.items
