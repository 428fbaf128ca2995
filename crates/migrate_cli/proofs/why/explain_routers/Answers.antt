use Rattle.std.proofs.Common.{◌∙◌, ap, length, subst}
use Rattle.std.proofs.lemmas.Result.{IfOk-weaker}
use Rattle.net_model.specs.Network.{Network}
use Rattle.step_scripts.specs.FaultyLines.{IsLeastFaultyLine, RefusesWaves}
use Rattle.step_scripts.specs.WaveFiles.{NamesWaves}
use Rattle.migration_report.specs.declared.decision.Decision.TheVariants.{BadOrder}
use Rattle.migrate_cli.specs.ExplainedDecision.{IsExplainedFile, IsExplainedList}
use Rattle.migrate_cli.specs.ExplainedDecision.IsExplainedFile.{explained_list, faulty_list}
use Rattle.migrate_cli.specs.Reading.{named_text}
use Rattle.migrate_cli.specs.steps.Tables.{move_of}
use Rattle.migrate_cli.proofs.AnswerFacts.{from_equal}
use Rattle.migrate_cli.proofs.why.explain_routers.Goals as goal

pub explain_list-requires : goal.explain_list-requires
explain_list-requires c = c.in-Ok.ensures.ok.are.each ∙ ap length c.net.ensures

pub returns-in-Ok : goal.returns-in-Ok
returns-in-Ok c =
    let read = c.in-Ok.read in
    let of = c.args.of.now in
    let names = subst (λ text. NamesWaves of.net text read.version read.waves) c.as_slice.ensures
    (subst (λ (net : Network). NamesWaves net c.as_slice.result.now read.version read.waves) c.net.ensures c.in-Ok.ensures.ok) in
    IfOk-weaker c.explain_list.result (IsExplainedList (move_of of) read.version read.waves)
    (IsExplainedFile (move_of of) (named_text c.args.file.now c.args.order.now))
    (λ decision is. explained_list read.version read.waves decision names is) c.explain_list.ensures

pub returns-in-Err-Bad : goal.returns-in-Err-Bad
returns-in-Err-Bad c =
    let of = c.args.of.now in
    let line = c.in-Err-Bad.line in
    let kind = c.in-Err-Bad.kind in
    from_equal c.bad_order.result (BadOrder c.args.file.now line kind) (IsExplainedFile (move_of of) (named_text c.args.file.now c.args.order.now))
    c.bad_order.ensures
    (faulty_list line kind
    (subst (λ text. IsLeastFaultyLine of.net text line kind) c.as_slice.ensures
    (subst (λ (net : Network). IsLeastFaultyLine net c.as_slice.result.now line kind) c.net.ensures
    (subst (RefusesWaves c.net.result.now c.as_slice.result.now) c.in-Err-Bad.field-0-is c.in-Err-Bad.ensures.err))))
