use Rattle.std.proofs.Common.{◌≡◌, ℕ, length, subst, arith}
use Rattle.walk_core.specs.steps.Kept.{HasRun}
use Rattle.walk_core.proofs.LostLaws.{run_ends, run_misses}
use Rattle.walk_core.proofs.lost.lost_segments.Goals as goal

pub returns-then-run-after-clause-none : goal.returns-then-run-after-clause-none
returns-then-run-after-clause-none c =
    let all : c.loop-place.place ≡ length c.args.before.now = omega arith in
    run_misses c.args.before.now c.args.after.now c.loop-place.run.met c.loop-place.run.lost.items
    (subst (λ (n : ℕ). HasRun n c.args.before.now c.args.after.now c.loop-place.run.met c.loop-place.run.lost.items) all c.loop-place.invariant)
    (omega (arith, c.if-run-after.true))

pub returns-clause-lost : goal.returns-clause-lost
returns-clause-lost c =
    let all : c.loop-place.place ≡ length c.args.before.now = omega arith in
    run_ends c.args.before.now c.args.after.now c.loop-place.run.met c.loop-place.run.lost.items
    (subst (λ (n : ℕ). HasRun n c.args.before.now c.args.after.now c.loop-place.run.met c.loop-place.run.lost.items) all c.loop-place.invariant)
    (omega (arith, c.if-run-after.false))
