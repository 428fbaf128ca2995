use Rattle.std.proofs.Common.{◌∙◌, ◌<◌, length, subst, sym, true≢false}
use Rattle.std.proofs.lemmas.Result.{IfOk-weaker}
use Rattle.change_orders.specs.TwoFaults.{two_header}
use Rattle.migrate_cli.specs.ChangesDecision.{IsChangesCheck}
use Rattle.migrate_cli.specs.CheckDecision.{IsCheckDecision, IsCheckOver}
use Rattle.migrate_cli.specs.CheckDecision.IsCheckDecision.{by_changes, by_routers}
use Rattle.migrate_cli.specs.FirstLines.{BeginsWith}
use Rattle.migrate_cli.specs.Reading.{named_text}
use Rattle.migrate_cli.specs.steps.Tables.{NetworkMove, move_of}
use Rattle.migrate_cli.proofs.check.judge_check.Goals as goal

pub check_changes-requires-clause-some : goal.check_changes-requires-clause-some
check_changes-requires-clause-some c = subst (λ (of : NetworkMove). 0 < length of.net) (sym c.to_isis-of.ensures) c.requires.some

pub check_over-requires-clause-some : goal.check_over-requires-clause-some
check_over-requires-clause-some c = subst (λ (of : NetworkMove). 0 < length of.net) (sym c.to_isis-of.ensures) c.requires.some

pub returns-then-begins_with : goal.returns-then-begins_with
returns-then-begins_with c =
    let order = named_text c.args.file.now c.args.text.now in
    let begins = subst (BeginsWith two_header) c.as_slice.ensures (c.begins_with.ensures.0 c.if-begins_with.true) in
    IfOk-weaker c.check_changes.result (IsChangesCheck (move_of c.to_isis-of.result) order) (IsCheckDecision order c.args.net.now)
    (λ decision is. by_changes decision begins
    (subst (λ (of : NetworkMove). IsChangesCheck (move_of of) order decision) c.to_isis-of.ensures is))
    c.check_changes.ensures

pub returns-else-begins_with : goal.returns-else-begins_with
returns-else-begins_with c =
    let order = named_text c.args.file.now c.args.text.now in
    let not : ¬ BeginsWith two_header order.text = λ begins. true≢false
    (sym (c.begins_with.ensures.1 (subst (BeginsWith two_header) (sym c.as_slice.ensures) begins)) ∙ c.if-begins_with.false) in
    IfOk-weaker c.check_over.result (IsCheckOver (move_of c.to_isis-of.result) order) (IsCheckDecision order c.args.net.now)
    (λ decision is. by_routers decision not
    (subst (λ (of : NetworkMove). IsCheckOver (move_of of) order decision) c.to_isis-of.ensures is))
    c.check_over.ensures
