use Rattle.std.proofs.Common.{arith}
use Rattle.std.proofs.lemmas.Grind.{common_steps}
use Rattle.std.proofs.Common.{◌∙◌, ap, length, subst}
use Rattle.net_model.specs.Network.{Network}
use Rattle.step_scripts.specs.FaultyLines.{IsLeastFaultyLine, RefusesWaves}
use Rattle.migration_report.specs.declared.decision.Decision.TheVariants.{BadOrder}
use Rattle.migrate_cli.specs.CheckDecision.{IsCheckOver}
use Rattle.migrate_cli.specs.CheckDecision.IsCheckOver.{faulty_order}
use Rattle.migrate_cli.specs.Reading.{named_text}
use Rattle.migrate_cli.specs.steps.Tables.{move_of}
use Rattle.migrate_cli.proofs.AnswerFacts.{from_equal}
use Rattle.migrate_cli.proofs.check.check_over.Goals as goal

pub check_read-requires : goal.check_read-requires
check_read-requires c = c.in-Ok.ensures.ok.are.each ∙ ap length c.net.ensures

pub returns-in-Ok : goal.returns-in-Ok
returns-in-Ok c = grind (arith, common_steps)

pub returns-in-Err-Bad : goal.returns-in-Err-Bad
returns-in-Err-Bad c =
    let of = c.args.of.now in
    let line = c.in-Err-Bad.line in
    let kind = c.in-Err-Bad.kind in
    from_equal c.bad_order.result (BadOrder c.args.file.now line kind) (IsCheckOver (move_of of) (named_text c.args.file.now c.args.text.now))
    c.bad_order.ensures
    (faulty_order line kind
    (subst (λ text. IsLeastFaultyLine of.net text line kind) c.as_slice.ensures
    (subst (λ (net : Network). IsLeastFaultyLine net c.as_slice.result.now line kind) c.net.ensures
    (subst (RefusesWaves c.net.result.now c.as_slice.result.now) c.in-Err-Bad.field-0-is c.in-Err-Bad.ensures.err))))
