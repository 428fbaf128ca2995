use Rattle.std.proofs.Common.{◌++◌, List, ℕ, ap, ◌∙◌}
use Rattle.std.proofs.lemmas.List.{get_or_default}
use Rattle.survey_report.specs.KindTexts.{IsKindText}
use Rattle.survey_report.proofs.PartFacts.{ArePartsOf-next}
use Rattle.survey_report.proofs.kind_texts.kinds_text.Goals as goal

pub loop-kind-preserved : goal.loop-kind-preserved
loop-kind-preserved c =
    ArePartsOf-next (IsKindText c.args.read.now) c.args.kinds.now c.loop-kind.kind-index _ c.loop-kind.text.items c.in_ok-part.part
    c.extend_from_slice.new.self.items c.loop-kind-test.true (get_or_default c.args.kinds.now c.loop-kind.kind-index _ _ c.loop-kind-test.true)
    c.loop-kind.invariant c.in_ok-part.ensures
    (c.in_ok-extend_from_slice.ensures.items ∙ ap (λ (t : List ℕ). c.loop-kind.text.items ++ t) c.as_slice.ensures)
