-- `twopass` decides one thing of a network.
use Rattle.std.proofs.Common.{◌≡◌, ℕ, ap}
use Rattle.igp_theory.specs.LoopLaws.{BeginsOld}
use Rattle.igp_theory.specs.Migrations.{Migration}
use Rattle.igp_theory.specs.Phases.{all_new}
use Rattle.plan_theory.specs.Plans.{IsNightPlanned}
use Rattle.plan_theory.specs.declared.items.Items.TheVariants.{Changes}
use Rattle.plan_theory.specs.declared.planned.Planned.{Planned}
use Rattle.plan_theory.specs.declared.planned.Planned.TheVariants.{UnsoundOld, UnsoundNew, Searched}
use Rattle.plan_theory.proofs.OnePlan.{one_night_plan}
use Rattle.wave_oracle.proofs.ReadBack.{plan_printable}
use Rattle.migration_report.specs.Outcomes.{IsPlanTellable, IsTellable}
use Rattle.migration_report.specs.declared.decision.Decision.{Decision}
use Rattle.migration_report.specs.declared.decision.Decision.TheVariants.{TwoPass}
use Rattle.migrate_cli.specs.TwoPassDecision.{IsTwoPassOver}
use Rattle.migrate_cli.specs.TwoPassDecision.IsTwoPassOver.{plans_changes}
use Rattle.migrate_cli.proofs.FaultFacts.{fault_below}

-- a plan is of the changes of the network's routers
changes_plan_tellable : (move : Migration) (budget : ℕ) (planned : Planned) → IsNightPlanned Changes move budget planned →
    IsPlanTellable Changes move.net planned
changes_plan_tellable move budget (UnsoundOld fault) is = fault_below move move.start fault is
changes_plan_tellable move budget (UnsoundNew fault) is = fault_below move all_new fault is.last
changes_plan_tellable move budget (Searched found) is = plan_printable Changes move budget found is.is_found

pub two_pass_tellable : {budget : ℕ} {move : Migration} {d : Decision} → IsTwoPassOver move budget d → IsTellable move.net d
two_pass_tellable {budget} {move} (plans_changes planned _ _ is) = changes_plan_tellable move budget planned is

pub one_two_pass_decision : {budget : ℕ} {move : Migration} {d e : Decision} → BeginsOld move → IsTwoPassOver move budget d →
    IsTwoPassOver move budget e → d ≡ e
one_two_pass_decision {budget} {move} begins (plans_changes one _ _ is) (plans_changes other _ _ its) =
    ap (λ (p : Planned). TwoPass p) (one_night_plan Changes move begins budget one other is its)
