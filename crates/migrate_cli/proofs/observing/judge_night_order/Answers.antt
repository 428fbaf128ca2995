use Rattle.std.proofs.Common.{ap, subst, sym}
use Rattle.step_scripts.specs.FaultyLines.{IsLeastFaultyLine, RefusesWaves}
use Rattle.step_scripts.specs.WaveFiles.{NamesWaves}
use Rattle.migration_report.specs.declared.decision.Decision.TheVariants.{BadOrder}
use Rattle.migrate_cli.specs.ObserveDecision.{IsObserveDecision, told_decision}
use Rattle.migrate_cli.specs.ObserveDecision.IsObserveDecision.{faulty_waves, of_waves}
use Rattle.migrate_cli.specs.Reading.{named_text}
use Rattle.migrate_cli.proofs.AnswerFacts.{from_equal}
use Rattle.migrate_cli.proofs.observing.judge_night_order.Goals as goal

pub returns-in-Err-Bad : goal.returns-in-Err-Bad
returns-in-Err-Bad c =
    let before = c.args.before.now in
    let files = c.args.files.now in
    let line = c.in-Err-Bad.line in
    let kind = c.in-Err-Bad.kind in
    from_equal c.bad_order.result (BadOrder files.file.now line kind)
    (IsObserveDecision before c.args.now.now (named_text files.file.now files.order.now)) c.bad_order.ensures
    (faulty_waves line kind
    (subst (λ text. IsLeastFaultyLine before text line kind) c.as_slice.ensures
    (subst (RefusesWaves before c.as_slice.result.now) c.in-Err-Bad.field-0-is c.in-Err-Bad.ensures.err)))

pub returns-in-Differs : goal.returns-in-Differs
returns-in-Differs c =
    let read = c.in-Ok.read in
    of_waves read.version read.waves c.in_ok-text.field-0 _
    (subst (λ text. NamesWaves c.args.before.now text read.version read.waves) c.as_slice.ensures c.in-Ok.ensures.ok)
    c.observe.ensures.network c.observe.ensures.ranking c.in_ok-text.ensures.observed (sym (ap told_decision c.in-Differs.is))

pub returns-in-Astray : goal.returns-in-Astray
returns-in-Astray c =
    let read = c.in-Ok.read in
    of_waves read.version read.waves c.in_ok-text.field-0 _
    (subst (λ text. NamesWaves c.args.before.now text read.version read.waves) c.as_slice.ensures c.in-Ok.ensures.ok)
    c.observe.ensures.network c.observe.ensures.ranking c.in_ok-text.ensures.observed (sym (ap told_decision c.in-Astray.is))

pub returns : goal.returns
returns c =
    let read = c.in-Ok.read in
    of_waves read.version read.waves c.in_ok-text.field-0 _
    (subst (λ text. NamesWaves c.args.before.now text read.version read.waves) c.as_slice.ensures c.in-Ok.ensures.ok)
    c.observe.ensures.network c.observe.ensures.ranking c.in_ok-text.ensures.observed (sym (ap told_decision c.in-Journal.is))
