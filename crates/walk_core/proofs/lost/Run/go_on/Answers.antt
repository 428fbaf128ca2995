use Rattle.std.proofs.Common.{◌+◌, ℕ, List, [], sym, subst, ◌∙◌}
use Rattle.std.proofs.lemmas.Bool.{false≢true}
use Rattle.std.proofs.lemmas.List.{get_or_default}
use Rattle.walk_core.specs.steps.Kept.{HasRun}
use Rattle.walk_core.proofs.LostLaws.{run_lost, run_met}
use Rattle.walk_core.proofs.lost.Run.go_on.Goals as goal

pub returns-then-is_next : goal.returns-then-is_next
returns-then-is_next c =
    let read = c.index-before-place.is ∙ sym (get_or_default c.args.before.now c.args.place [] c.index-before-place.result c.requires.place) in
    let next = c.is_next.ensures.0 c.if-is_next.true in
    run_met c.args.place c.args.before.now c.args.after.now c.args.self.now.met c.args.self.now.lost.items c.requires.run c.requires.place next.0
    (next.1 ∙ read)

pub returns-in_ok-push : goal.returns-in_ok-push
returns-in_ok-push c =
    let read = c.index-before-place.is ∙ sym (get_or_default c.args.before.now c.args.place [] c.index-before-place.result c.requires.place) in
    subst (λ (l : List ℕ). HasRun (c.args.place + 1) c.args.before.now c.args.after.now c.args.self.now.met l) (sym c.in_ok-push.ensures.items)
    (run_lost c.args.place c.args.before.now c.args.after.now c.args.self.now.met c.args.self.now.lost.items c.requires.run c.requires.place
    (λ next. false≢true (sym c.if-is_next.false ∙ c.is_next.ensures.1 (next.0, next.1 ∙ sym read))))
