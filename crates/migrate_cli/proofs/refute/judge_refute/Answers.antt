use Rattle.std.proofs.Common.{◌∙◌, subst, sym, true≢false}
use Rattle.std.proofs.lemmas.Result.{IfOk-weaker}
use Rattle.refutation_check.specs.TreeLines.{rest_tree_header, two_tree_header}
use Rattle.migrate_cli.specs.ChangesDecision.{IsChangesTree}
use Rattle.migrate_cli.specs.FirstLines.{BeginsWith}
use Rattle.migrate_cli.specs.RefuteDecision.{HasOtherHeader, IsRefuteDecision, IsTreeDecision}
use Rattle.migrate_cli.specs.RefuteDecision.IsRefuteDecision.{by_changes, by_rest, by_routers}
use Rattle.migrate_cli.specs.RestDecision.{IsRestTree}
use Rattle.migrate_cli.specs.steps.Tables.{NetworkMove, move_of}
use Rattle.migrate_cli.proofs.refute.judge_refute.Goals as goal

pub returns-then-begins_with : goal.returns-then-begins_with
returns-then-begins_with c =
    let tree = c.args.tree.now in
    let begins = subst (BeginsWith two_tree_header) c.as_slice.ensures (c.begins_with.ensures.0 c.if-begins_with.true) in
    IfOk-weaker c.refute_changes.result (IsChangesTree (move_of c.to_isis-of.result) tree) (IsRefuteDecision tree c.args.net.now)
    (λ decision is. by_changes decision begins
    (subst (λ (of : NetworkMove). IsChangesTree (move_of of) tree decision) c.to_isis-of.ensures is))
    c.refute_changes.ensures

pub returns-then-begins_with-2 : goal.returns-then-begins_with-2
returns-then-begins_with-2 c =
    let tree = c.args.tree.now in
    let begins = subst (BeginsWith rest_tree_header) c.as_slice-else-begins_with.ensures (c.begins_with-else-begins_with.ensures.0 c.if-begins_with-2.true) in
    IfOk-weaker c.refute_rest.result (IsRestTree (move_of c.to_isis-of.result) tree) (IsRefuteDecision tree c.args.net.now)
    (λ decision is. by_rest decision begins
    (subst (λ (of : NetworkMove). IsRestTree (move_of of) tree decision) c.to_isis-of.ensures is))
    c.refute_rest.ensures

pub returns-else-begins_with-2 : goal.returns-else-begins_with-2
returns-else-begins_with-2 c =
    let tree = c.args.tree.now in
    let no_changes : ¬ BeginsWith two_tree_header tree = λ begins. true≢false
    (sym (c.begins_with.ensures.1 (subst (BeginsWith two_tree_header) (sym c.as_slice.ensures) begins)) ∙ c.if-begins_with.false) in
    let no_start : ¬ BeginsWith rest_tree_header tree = λ begins. true≢false
    (sym (c.begins_with-else-begins_with.ensures.1 (subst (BeginsWith rest_tree_header) (sym c.as_slice-else-begins_with.ensures) begins))
    ∙ c.if-begins_with-2.false) in
    let other : HasOtherHeader tree = record { no_changes = no_changes; no_start = no_start } in
    IfOk-weaker c.refute_over.result (IsTreeDecision (move_of c.to_isis-of.result) tree) (IsRefuteDecision tree c.args.net.now)
    (λ decision is. by_routers decision other
    (subst (λ (of : NetworkMove). IsTreeDecision (move_of of) tree decision) c.to_isis-of.ensures is))
    c.refute_over.ensures
