use Rattle.std.proofs.Common.{arith}
use Rattle.std.proofs.lemmas.Grind.{common_steps}
use Rattle.std.proofs.Common.{subst}
use Rattle.step_scripts.specs.FaultyLines.{IsLeastFaultyLine, RefusesWaves}
use Rattle.migration_report.specs.declared.decision.Decision.TheVariants.{BadOrder}
use Rattle.migrate_cli.specs.CheckDecision.IsCheckOver.{faulty_order}
use Rattle.migrate_cli.specs.Reading.{named_text}
use Rattle.migrate_cli.specs.SplitDecision.{IsSplitDecision}
use Rattle.migrate_cli.specs.SplitDecision.IsSplitDecision.{unsafe}
use Rattle.migrate_cli.proofs.AnswerFacts.{from_equal}
use Rattle.migrate_cli.proofs.split.judge_split.Goals as goal

pub split_read-requires-clause-each : goal.split_read-requires-clause-each
split_read-requires-clause-each c = c.in-Ok.ensures.ok.are.each

pub returns-in-Ok : goal.returns-in-Ok
returns-in-Ok c = grind (arith, common_steps)

pub returns-in-Err-Bad : goal.returns-in-Err-Bad
returns-in-Err-Bad c =
    let net = c.args.net.now in
    let line = c.in-Err-Bad.line in
    let kind = c.in-Err-Bad.kind in
    from_equal c.bad_order.result (BadOrder c.args.file.now line kind) (IsSplitDecision (named_text c.args.file.now c.args.order.now) c.args.most net)
    c.bad_order.ensures
    (unsafe _ (faulty_order line kind
    (subst (λ text. IsLeastFaultyLine net text line kind) c.as_slice.ensures
    (subst (RefusesWaves net c.as_slice.result.now) c.in-Err-Bad.field-0-is c.in-Err-Bad.ensures.err))) (λ no. no))
