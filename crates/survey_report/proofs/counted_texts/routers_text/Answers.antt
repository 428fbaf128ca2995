use Rattle.std.proofs.Common.{◌++◌, List, ℕ, sym, ap, ◌∙◌, arith}
use Rattle.std.proofs.lemmas.Option.{get_or_from_slice_get}
use Rattle.survey_report.specs.KindTexts.{IsRouterText}
use Rattle.survey_report.proofs.PartFacts.{ArePartsOf-next}
use Rattle.survey_report.proofs.counted_texts.routers_text.Goals as goal

pub loop-router-preserved : goal.loop-router-preserved
loop-router-preserved c =
    ArePartsOf-next IsRouterText c.args.net.now c.loop-router.router c.config.result.now c.loop-router.text.items c.in_ok-line.line
    c.extend_from_slice.new.self.items (omega (arith, c.loop-router-test.true, c.routers-router-end.ensures.count))
    (sym (get_or_from_slice_get c.args.net.now c.loop-router.router c.config.result.now c.config.result.now c.config.ensures.router))
    c.loop-router.invariant c.in_ok-line.ensures
    (c.in_ok-extend_from_slice.ensures.items ∙ ap (λ (t : List ℕ). c.loop-router.text.items ++ t) c.as_slice.ensures)
