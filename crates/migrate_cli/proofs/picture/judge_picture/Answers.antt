use Rattle.std.proofs.Common.{◌∙◌, ap, length, subst, sym}
use Rattle.std.proofs.lemmas.Result.{IfOk-weaker}
use Rattle.step_scripts.specs.FaultyLines.{IsLeastFaultyLine, RefusesWaves}
use Rattle.step_scripts.specs.WaveFiles.{NamesWaves}
use Rattle.migration_report.specs.declared.decision.Decision.TheVariants.{BadOrder}
use Rattle.migrate_cli.specs.CheckDecision.{IsCheckOver}
use Rattle.migrate_cli.specs.PictureDecision.{IsDrawn, IsPictureDecision}
use Rattle.migrate_cli.specs.PictureDecision.IsPictureDecision.{drawn_list, faulty_file}
use Rattle.migrate_cli.specs.Reading.{named_text}
use Rattle.migrate_cli.specs.steps.Tables.{NetworkMove, move_of}
use Rattle.migrate_cli.proofs.AnswerFacts.{from_equal}
use Rattle.migrate_cli.proofs.PictureLaws.{verdict_of}
use Rattle.migrate_cli.proofs.picture.judge_picture.Goals as goal

pub check_read-requires : goal.check_read-requires
check_read-requires c = c.in-Ok.ensures.ok.are.each ∙ ap (λ (of : NetworkMove). length of.net) (sym c.to_isis.ensures)

pub draw_checked-requires : goal.draw_checked-requires
draw_checked-requires c =
    let net = c.args.net.now in
    let read = c.in-Ok.read in
    let order = named_text c.args.file.now c.args.order.now in
    let checked = c.in_ok-checked-in-Ok.checked in
    let names = subst (λ text. NamesWaves net text read.version read.waves) c.as_slice.ensures c.in-Ok.ensures.ok in
    let is = c.in_ok-checked-in-Ok.ensures order
    (subst (λ (of : NetworkMove). NamesWaves of.net order.text read.version read.waves) (sym c.to_isis.ensures) names) in
    verdict_of order net c.routers-routers.ensures.network.ascending names
    (subst (λ (of : NetworkMove). IsCheckOver (move_of of) order checked) c.to_isis.ensures is)

pub returns-in_ok-checked-in-Ok : goal.returns-in_ok-checked-in-Ok
returns-in_ok-checked-in-Ok c =
    let net = c.args.net.now in
    let read = c.in-Ok.read in
    let order = named_text c.args.file.now c.args.order.now in
    let checked = c.in_ok-checked-in-Ok.checked in
    let names = subst (λ text. NamesWaves net text read.version read.waves) c.as_slice.ensures c.in-Ok.ensures.ok in
    let is = c.in_ok-checked-in-Ok.ensures order
    (subst (λ (of : NetworkMove). NamesWaves of.net order.text read.version read.waves) (sym c.to_isis.ensures) names) in
    let over = subst (λ (of : NetworkMove). IsCheckOver (move_of of) order checked) c.to_isis.ensures is in
    IfOk-weaker c.draw_checked.result (IsDrawn net read.waves checked) (IsPictureDecision order net)
    (λ decision drawn. drawn_list read.version read.waves checked decision c.routers-routers.ensures.network names over drawn)
    c.draw_checked.ensures

pub returns-in-Err-Bad : goal.returns-in-Err-Bad
returns-in-Err-Bad c =
    let net = c.args.net.now in
    let line = c.in-Err-Bad.line in
    let kind = c.in-Err-Bad.kind in
    from_equal c.bad_order.result (BadOrder c.args.file.now line kind) (IsPictureDecision (named_text c.args.file.now c.args.order.now) net)
    c.bad_order.ensures
    (faulty_file line kind
    (subst (λ text. IsLeastFaultyLine net text line kind) c.as_slice.ensures
    (subst (RefusesWaves net c.as_slice.result.now) c.in-Err-Bad.field-0-is c.in-Err-Bad.ensures.err)))
