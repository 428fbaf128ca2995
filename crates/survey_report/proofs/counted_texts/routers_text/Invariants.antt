use Rattle.std.proofs.Common.{take}
use Rattle.survey_report.specs.KindTexts.{IsRouterText}
use Rattle.survey_report.specs.Parts.{ArePartsOf}
use Rattle.survey_report.proofs.counted_texts.routers_text.Given as goal

abbrev pub invariant-loop-router : goal.invariant-loop-router
invariant-loop-router l = ArePartsOf IsRouterText (take l.router l.net) l.text.items
