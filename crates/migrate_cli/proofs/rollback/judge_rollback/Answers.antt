use Rattle.std.proofs.Common.{sym, subst}
use Rattle.std.proofs.lemmas.Result.{IfOk-weaker}
use Rattle.step_scripts.specs.FaultyLines.{IsLeastFaultyLine, RefusesWaves}
use Rattle.step_scripts.specs.WaveFiles.{NamesWaves}
use Rattle.migration_report.specs.declared.decision.Decision.TheVariants.{BadOrder}
use Rattle.migrate_cli.specs.Reading.{named_text}
use Rattle.migrate_cli.specs.ReplayDecision.{journal_of}
use Rattle.migrate_cli.specs.RollbackDecision.{IsRollbackDecision, IsWayBack}
use Rattle.migrate_cli.specs.RollbackDecision.IsRollbackDecision.{faulty_waves, of_waves}
use Rattle.migrate_cli.proofs.AnswerFacts.{from_equal}
use Rattle.migrate_cli.proofs.rollback.judge_rollback.Goals as goal

pub returns-in-Err-Bad : goal.returns-in-Err-Bad
returns-in-Err-Bad c =
    let net = c.args.net.now in
    let line = c.in-Err-Bad.line in
    let kind = c.in-Err-Bad.kind in
    from_equal c.bad_order.result (BadOrder c.args.file.now line kind)
    (IsRollbackDecision (named_text c.args.file.now c.args.order.now) (journal_of c.args.journal.now net)) c.bad_order.ensures
    (faulty_waves line kind
    (subst (λ text. IsLeastFaultyLine net text line kind) c.as_slice.ensures
    (subst (RefusesWaves net c.as_slice.result.now) c.in-Err-Bad.field-0-is c.in-Err-Bad.ensures.err)))

pub returns : goal.returns
returns c =
    let net = c.args.net.now in
    let file = c.in-Ok.file in
    IfOk-weaker c.take_back.result (IsWayBack (journal_of c.args.journal.now net) c.ranks.result.now)
    (IsRollbackDecision (named_text c.args.file.now c.args.order.now) (journal_of c.args.journal.now net))
    (λ decision is. of_waves file.version c.ranks.result.now decision
    (subst (NamesWaves net c.args.order.now file.version) (sym c.ranks.ensures.ranks)
    (subst (λ text. NamesWaves net text file.version file.waves) c.as_slice.ensures c.in-Ok.ensures.ok)) is)
    c.take_back.ensures
