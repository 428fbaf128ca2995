use Rattle.std.proofs.Common.{◌≡◌, ℕ, arith, length, subst}
use Rattle.loop_finder.specs.steps.Parts.{AreAllBut, IsBareIn}
use Rattle.loop_finder.proofs.PartRows.{AreAllBut-more}
use Rattle.loop_finder.proofs.part.steppers_of.Goals as goal

pub loop-router-preserved : goal.loop-router-preserved
loop-router-preserved c =
    AreAllBut-more (IsBareIn c.args.rows.now) c.loop-router.router c.loop-router.steppers.items c.add_stepper.new.steppers.items
    c.loop-router.invariant c.in_ok-add_stepper.ensures

pub returns : goal.returns
returns c =
    let all : c.loop-router.router ≡ length c.args.rows.now =
    omega (arith, c.loop-router-test.false, c.loop-router.auto.router-end, c.requires) in
    subst (λ (n : ℕ). AreAllBut (IsBareIn c.args.rows.now) n c.loop-router.steppers.items) all c.loop-router.invariant
