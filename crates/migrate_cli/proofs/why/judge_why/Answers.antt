use Rattle.std.proofs.Common.{◌∙◌, ◌<◌, length, subst, sym, true≢false}
use Rattle.std.proofs.lemmas.Result.{IfOk-weaker}
use Rattle.change_orders.specs.TwoFaults.{two_header}
use Rattle.migrate_cli.specs.ExplainedChanges.{IsExplainedChangesFile}
use Rattle.migrate_cli.specs.ExplainedDecision.{IsExplainedDecision, IsExplainedFile}
use Rattle.migrate_cli.specs.ExplainedDecision.IsExplainedDecision.{explained_routers, explained_singles}
use Rattle.migrate_cli.specs.FirstLines.{BeginsWith}
use Rattle.migrate_cli.specs.Reading.{named_text}
use Rattle.migrate_cli.specs.steps.Tables.{NetworkMove, move_of}
use Rattle.migrate_cli.proofs.why.judge_why.Goals as goal

pub explain_changes-requires-clause-some : goal.explain_changes-requires-clause-some
explain_changes-requires-clause-some c = subst (λ (of : NetworkMove). 0 < length of.net) (sym c.to_isis-of.ensures) c.requires.some

pub explain_routers-requires-clause-some : goal.explain_routers-requires-clause-some
explain_routers-requires-clause-some c = subst (λ (of : NetworkMove). 0 < length of.net) (sym c.to_isis-of.ensures) c.requires.some

pub returns-then-begins_with : goal.returns-then-begins_with
returns-then-begins_with c =
    let order = named_text c.args.file.now c.args.order.now in
    let begins = subst (BeginsWith two_header) c.as_slice.ensures (c.begins_with.ensures.0 c.if-begins_with.true) in
    IfOk-weaker c.explain_changes.result (IsExplainedChangesFile (move_of c.to_isis-of.result) order) (IsExplainedDecision order c.args.net.now)
    (λ decision is. explained_singles decision begins
    (subst (λ (of : NetworkMove). IsExplainedChangesFile (move_of of) order decision) c.to_isis-of.ensures is))
    c.explain_changes.ensures

pub returns-else-begins_with : goal.returns-else-begins_with
returns-else-begins_with c =
    let order = named_text c.args.file.now c.args.order.now in
    let not : ¬ BeginsWith two_header order.text = λ begins. true≢false
    (sym (c.begins_with.ensures.1 (subst (BeginsWith two_header) (sym c.as_slice.ensures) begins)) ∙ c.if-begins_with.false) in
    IfOk-weaker c.explain_routers.result (IsExplainedFile (move_of c.to_isis-of.result) order) (IsExplainedDecision order c.args.net.now)
    (λ decision is. explained_routers decision not
    (subst (λ (of : NetworkMove). IsExplainedFile (move_of of) order decision) c.to_isis-of.ensures is))
    c.explain_routers.ensures
