use Rattle.std.proofs.Common.{subst}
use Rattle.step_scripts.specs.FaultyLines.{IsLeastFaultyLine, RefusesWaves}
use Rattle.step_scripts.specs.WaveFiles.{NamesWaves}
use Rattle.migration_report.specs.declared.decision.Decision.TheVariants.{BadOrder}
use Rattle.migrate_cli.specs.Reading.{named_text}
use Rattle.migrate_cli.specs.ScriptsDecision.{IsScriptsDecision}
use Rattle.migrate_cli.specs.ScriptsDecision.IsScriptsDecision.{faulty_waves, of_waves}
use Rattle.migrate_cli.proofs.AnswerFacts.{from_equal}
use Rattle.migrate_cli.proofs.scripts.judge_scripts.Goals as goal

pub returns-in-Ok : goal.returns-in-Ok
returns-in-Ok c =
    let read = c.in-Ok.read in
    of_waves read.version read.waves (subst (λ text. NamesWaves c.args.net.now text read.version read.waves) c.as_slice.ensures c.in-Ok.ensures.ok)

pub returns-in-Err-Bad : goal.returns-in-Err-Bad
returns-in-Err-Bad c =
    let net = c.args.net.now in
    let line = c.in-Err-Bad.line in
    let kind = c.in-Err-Bad.kind in
    from_equal c.bad_order.result (BadOrder c.args.file.now line kind) (IsScriptsDecision (named_text c.args.file.now c.args.order.now) net) c.bad_order.ensures
    (faulty_waves line kind
    (subst (λ text. IsLeastFaultyLine net text line kind) c.as_slice.ensures
    (subst (RefusesWaves net c.as_slice.result.now) c.in-Err-Bad.field-0-is c.in-Err-Bad.ensures.err)))
