use Rattle.std.proofs.Common.{◌≡◌, IfOk, ap, ◌∙◌, subst}
use Rattle.igp_theory.specs.Migrations.{started}
use Rattle.igp_theory.specs.Phases.{State, all_old, state_in}
use Rattle.rib_mix.specs.Mixture.{migration_of}
use Rattle.plan_theory.specs.Plans.{IsNightPlanned}
use Rattle.plan_theory.specs.declared.items.Items.TheVariants.{Routers}
use Rattle.igp_theory.proofs.ListedStates.{is_all_old}
use Rattle.wave_oracle.proofs.plan.plan_waves.Goals as goal

pub returns : goal.returns
returns g c =
    let old : state_in c.as_slice.result.now ≡ all_old = ap state_in c.as_slice.ensures.value
    ∙ is_all_old c.in_ok-start.start.items c.routers.result c.in_ok-start.ensures.count c.in_ok-start.ensures.each in
    record {
      planned = subst (λ (s : State). IfOk c.plan_night.result (IsNightPlanned Routers
          (started s (migration_of g.O.RouteSource.table g.N.RouteSource.table c.args.mixed.now)) c.args.budget)) old c.plan_night.ensures.planned;
    }
