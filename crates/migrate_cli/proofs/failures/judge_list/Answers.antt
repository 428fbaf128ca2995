use Rattle.std.proofs.Common.{◌∙◌, ap, length, subst, sym, true≢false}
use Rattle.std.proofs.lemmas.Result.{IfOk-weaker}
use Rattle.step_scripts.specs.WaveFiles.{NamesWaves}
use Rattle.migrate_cli.specs.CheckDecision.{IsCheckOver}
use Rattle.migrate_cli.specs.FailuresDecision.{IsFailuresDecision}
use Rattle.migrate_cli.specs.FailuresDecision.IsFailuresDecision.{no_yes, of_links}
use Rattle.migrate_cli.specs.steps.StandingNetworks.{IsLinksDecision}
use Rattle.migrate_cli.specs.steps.Tables.{NetworkMove, move_of}
use Rattle.migrate_cli.proofs.failures.judge_list.Goals as goal

pub check_read-requires : goal.check_read-requires
check_read-requires g c = c.requires.each ∙ ap (λ (m : NetworkMove). length m.net) (sym c.to_isis.ensures)

pub returns-then-is_yes : goal.returns-then-is_yes
returns-then-is_yes g c = λ order names.
    let net = c.args.net.now in
    let read = c.args.read.now in
    let checked = c.in_ok-checked.checked in
    let is = c.in_ok-checked.ensures order
    (subst (λ (of : NetworkMove). NamesWaves of.net order.text read.version read.waves) (sym c.to_isis.ensures) names) in
    let over = subst (λ (of : NetworkMove). IsCheckOver (move_of of) order checked) c.to_isis.ensures is in
    IfOk-weaker c.judge_each.result (IsLinksDecision net read.version read.waves checked) (IsFailuresDecision order net)
    (λ decision told. of_links read.version read.waves checked decision told.failed told.network names over (c.is_yes.ensures.0 c.if-is_yes.true)
    told.are told.told) c.judge_each.ensures

pub returns : goal.returns
returns g c = λ order names.
    let read = c.args.read.now in
    let checked = c.in_ok-checked.checked in
    let is = c.in_ok-checked.ensures order
    (subst (λ (of : NetworkMove). NamesWaves of.net order.text read.version read.waves) (sym c.to_isis.ensures) names) in
    no_yes checked (subst (λ (of : NetworkMove). IsCheckOver (move_of of) order checked) c.to_isis.ensures is)
    (λ says. true≢false (sym (c.is_yes.ensures.1 says) ∙ c.if-is_yes.false))
