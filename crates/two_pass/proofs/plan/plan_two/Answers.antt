use Rattle.std.proofs.Common.{◌≡◌, ◌∙◌, IfOk, ap, refl, subst, sym}
use Rattle.igp_theory.specs.LoopLaws.{BeginsOld}
use Rattle.igp_theory.specs.Migrations.{Migration, started}
use Rattle.igp_theory.specs.Phases.{State, all_old, state_in}
use Rattle.igp_theory.proofs.ListedStates.{is_all_old}
use Rattle.plan_theory.specs.Plans.{IsNightPlanned}
use Rattle.plan_theory.specs.declared.items.Items.TheVariants.{Changes}
use Rattle.rib_mix.specs.Mixture.{migration_of}
use Rattle.two_pass.proofs.plan.plan_two.Goals as goal

pub plan_night-requires-clause-ranks : goal.plan_night-requires-clause-ranks
plan_night-requires-clause-ranks g c =
    let move : Migration = migration_of g.O.RouteSource.table g.N.RouteSource.table c.args.mixed.now in
    let old : state_in c.as_slice.result.now ≡ all_old = ap state_in c.as_slice.ensures.value
    ∙ is_all_old c.in_ok-start.start.items c.routers.result c.in_ok-start.ensures.count c.in_ok-start.ensures.each in
    subst (λ (start : State). BeginsOld (started start move)) (sym old) (λ u. refl)

pub returns : goal.returns
returns g c =
    let move : Migration = migration_of g.O.RouteSource.table g.N.RouteSource.table c.args.mixed.now in
    let old : state_in c.as_slice.result.now ≡ all_old = ap state_in c.as_slice.ensures.value
    ∙ is_all_old c.in_ok-start.start.items c.routers.result c.in_ok-start.ensures.count c.in_ok-start.ensures.each in
    subst (λ (start : State). IfOk c.plan_night.result (IsNightPlanned Changes (started start move) c.args.budget)) old c.plan_night.ensures.planned
