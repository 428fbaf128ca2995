use Rattle.std.proofs.lemmas.Grind.{common_steps}
use Rattle.std.proofs.Common.{◌≡◌, ℕ, arith, subst}
use Rattle.rib_mix.specs.Answers.{AddsAllBut}
use Rattle.rib_mix.proofs.UnlikeLaws.{added_more}
use Rattle.rib_mix.proofs.unlike.add_routers.Goals as goal

pub loop-router-preserved : goal.loop-router-preserved
loop-router-preserved c = grind (arith, common_steps, added_more)

pub returns : goal.returns
returns c =
    let all : c.loop-router.router ≡ c.args.count = omega (arith, c.loop-router-test.false, c.loop-router.auto.router-end) in
    subst (λ (n : ℕ). AddsAllBut (λ (u : ℕ). ⊥) n c.args.all.now.items c.loop-router.all.items) all c.loop-router.invariant
