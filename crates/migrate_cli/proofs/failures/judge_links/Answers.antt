use Rattle.std.proofs.Common.{arith}
use Rattle.std.proofs.lemmas.Grind.{common_steps}
use Rattle.std.proofs.Common.{subst}
use Rattle.step_scripts.specs.FaultyLines.{IsLeastFaultyLine, RefusesWaves}
use Rattle.migration_report.specs.declared.decision.Decision.TheVariants.{BadOrder}
use Rattle.migrate_cli.specs.CheckDecision.IsCheckOver.{faulty_order}
use Rattle.migrate_cli.specs.FailuresDecision.{IsFailuresDecision}
use Rattle.migrate_cli.specs.FailuresDecision.IsFailuresDecision.{no_yes}
use Rattle.migrate_cli.specs.Reading.{named_text}
use Rattle.migrate_cli.proofs.AnswerFacts.{from_equal}
use Rattle.migrate_cli.proofs.failures.judge_links.Goals as goal

pub judge_list-requires : goal.judge_list-requires
judge_list-requires g c = record { each = c.in-Ok.ensures.ok.are.each }

pub returns-in-Ok : goal.returns-in-Ok
returns-in-Ok g c = grind (arith, common_steps)

pub returns-in-Err-Bad : goal.returns-in-Err-Bad
returns-in-Err-Bad g c =
    let net = c.args.net.now in
    let line = c.in-Err-Bad.line in
    let kind = c.in-Err-Bad.kind in
    let file = c.args.order.0.now in
    from_equal c.bad_order.result (BadOrder file line kind) (IsFailuresDecision (named_text file c.args.order.1.now) net) c.bad_order.ensures
    (no_yes _ (faulty_order line kind
    (subst (λ text. IsLeastFaultyLine net text line kind) c.as_slice.ensures
    (subst (RefusesWaves net c.as_slice.result.now) c.in-Err-Bad.field-0-is c.in-Err-Bad.ensures.err))) (λ no. no))
