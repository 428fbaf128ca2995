use Rattle.std.proofs.Common.{◌∙◌, ap, length, refl, sym, subst, true≢false}
use Rattle.std.proofs.lemmas.Result.{IfOk-weaker}
use Rattle.igp_theory.specs.Migrations.{ospf_to_isis}
use Rattle.step_scripts.specs.WaveFiles.{NamesWaves}
use Rattle.migrate_cli.specs.CheckDecision.{IsCheckOver}
use Rattle.migrate_cli.specs.SplitDecision.{IsCutText, IsSplitDecision}
use Rattle.migrate_cli.specs.SplitDecision.IsSplitDecision.{unsafe}
use Rattle.migrate_cli.specs.steps.Tables.{NetworkMove, move_of}
use Rattle.migrate_cli.proofs.SplitLaws.{cut_decides, yes_is_seamless}
use Rattle.migrate_cli.proofs.split.split_read.Goals as goal

pub check_read-requires : goal.check_read-requires
check_read-requires c = c.requires.each ∙ ap (λ (m : NetworkMove). length m.net) (sym c.to_isis.ensures)

pub returns-then-is_yes : goal.returns-then-is_yes
returns-then-is_yes c = λ order names.
    let net = c.args.net.now in
    let read = c.args.read.now in
    let checked = c.in_ok-checked.checked in
    let is = c.in_ok-checked.ensures order
    (subst (λ (of : NetworkMove). NamesWaves of.net order.text read.version read.waves) (sym c.to_isis.ensures) names) in
    let over = subst (λ (of : NetworkMove). IsCheckOver (move_of of) order checked) c.to_isis.ensures is in
    IfOk-weaker c.cut_read.result (IsCutText net c.args.most read.waves) (IsSplitDecision order c.args.most net)
    (λ decision. cut_decides net order c.args.most read.version read.waves names (λ network. yes_is_seamless (ospf_to_isis net) (λ u. refl) order
    read.version read.waves network.ascending names read.ones over (c.is_yes.ensures.0 c.if-is_yes.true))) c.cut_read.ensures

pub returns : goal.returns
returns c = λ order names.
    let read = c.args.read.now in
    let checked = c.in_ok-checked.checked in
    let is = c.in_ok-checked.ensures order
    (subst (λ (of : NetworkMove). NamesWaves of.net order.text read.version read.waves) (sym c.to_isis.ensures) names) in
    unsafe checked (subst (λ (of : NetworkMove). IsCheckOver (move_of of) order checked) c.to_isis.ensures is)
    (λ says. true≢false (sym (c.is_yes.ensures.1 says) ∙ c.if-is_yes.false))
