use Rattle.std.proofs.Common.{arith}
use Rattle.std.proofs.lemmas.Grind.{common_steps}
use Rattle.std.proofs.Common.{length, subst}
use Rattle.std.proofs.lemmas.Result.{IfOk-weaker}
use Rattle.net_model.specs.Network.{Network}
use Rattle.change_orders.specs.TwoFaults.{IsLeastTwoFault, RefusesTwo}
use Rattle.change_orders.specs.TwoFiles.{AreTwoWaves, NamesTwo}
use Rattle.change_orders.specs.TwoTexts.{two_refusal_text}
use Rattle.migration_report.specs.declared.decision.Decision.TheVariants.{BadChanges}
use Rattle.migrate_cli.specs.ExplainedChanges.{AreExplainedChanges, IsExplainedChangesFile}
use Rattle.migrate_cli.specs.ExplainedChanges.IsExplainedChangesFile.{explained_changes, faulty_changes}
use Rattle.migrate_cli.specs.Reading.{named_text}
use Rattle.migrate_cli.specs.steps.Tables.{move_of}
use Rattle.migrate_cli.proofs.AnswerFacts.{from_equal}
use Rattle.migrate_cli.proofs.why_changes.explain_changes.Goals as goal

pub explain_list_of_changes-requires-clause-waves : goal.explain_list_of_changes-requires-clause-waves
explain_list_of_changes-requires-clause-waves c = grind (arith, common_steps)

pub returns-in-Ok : goal.returns-in-Ok
returns-in-Ok c =
    let of = c.args.of.now in
    let waves = c.in-Ok.waves in
    let names = subst (λ text. NamesTwo of.net text waves) c.as_slice.ensures
    (subst (λ (net : Network). NamesTwo net c.as_slice.result.now waves) c.net.ensures c.in-Ok.ensures.ok) in
    let turns = subst (λ (net : Network). AreTwoWaves (length net) waves) c.net.ensures c.in-Ok.ensures.in_turn in
    IfOk-weaker c.explain_list_of_changes.result (AreExplainedChanges (move_of of) waves)
    (IsExplainedChangesFile (move_of of) (named_text c.args.file.now c.args.order.now))
    (λ decision is. explained_changes waves decision names turns is) c.explain_list_of_changes.ensures

pub returns-in-Err-Bad : goal.returns-in-Err-Bad
returns-in-Err-Bad c =
    let of = c.args.of.now in
    let file = c.args.file.now in
    let line = c.in-Err-Bad.line in
    let kind = c.in-Err-Bad.kind in
    from_equal c.bad_changes.result (BadChanges (two_refusal_text file line kind))
    (IsExplainedChangesFile (move_of of) (named_text file c.args.order.now)) c.bad_changes.ensures
    (faulty_changes line kind
    (subst (λ text. IsLeastTwoFault of.net text line kind) c.as_slice.ensures
    (subst (λ (net : Network). IsLeastTwoFault net c.as_slice.result.now line kind) c.net.ensures
    (subst (RefusesTwo c.net.result.now c.as_slice.result.now) c.in-Err-Bad.field-0-is c.in-Err-Bad.ensures.err))))
