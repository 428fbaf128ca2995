use Rattle.std.proofs.lemmas.Grind.{common_steps}
use Rattle.std.proofs.Common.{rules, ◌≡◌, false, inr, subst, arith}
use Rattle.state_replay.specs.Journals.{progress}
use Rattle.state_replay.specs.steps.Making.{MakesChange}
use Rattle.state_replay.proofs.Places.{IsTaken, taken_start, taken_few, taken_made, taken_not}
use Rattle.state_replay.proofs.journal.replay.Goals as goal

pub loop-line-init : goal.loop-line-init
loop-line-init c = grind (arith, common_steps, taken_start)

pub overflow_add-result : goal.overflow_add-result
overflow_add-result c = omega (arith, c.start_counts.ensures.network.limits.routers, taken_few c.loop-line.invariant)

pub overflow_add-changes : goal.overflow_add-changes
overflow_add-changes c = omega (arith, c.start_counts.ensures.network.limits.routers, taken_few c.loop-line.invariant)

pub returns-then-not-judge_line : goal.returns-then-not-judge_line
returns-then-not-judge_line c =
    let p = progress c.args.net.now c.args.ranks.now c.loop-line.done in
    let no : c.judge_line.result ≡ false = search rules in
    inr (taken_not p c.args.journal.now c.in-Some.line.now c.next_line.new.self c.loop-line.changes c.judge_line.new.done
    (subst (λ lines. IsTaken p c.args.journal.now lines c.loop-line.changes) c.in-Some.ensures.some c.loop-line.invariant)
    (subst (MakesChange p c.in-Some.line.now c.judge_line.new.done) no c.judge_line.ensures))

pub loop-line-preserved : goal.loop-line-preserved
loop-line-preserved c = grind (arith, common_steps, taken_made)
