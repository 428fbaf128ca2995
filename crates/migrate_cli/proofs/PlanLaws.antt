-- `plan` and `sample` decide one thing of a network.
use Rattle.std.proofs.Common.{arith}
use Rattle.std.proofs.lemmas.Grind.{common_steps}
use Rattle.std.proofs.Common.{◌≡◌, ℕ, List, [], sym, ap}
use Rattle.net_model.specs.Network.{Network}
use Rattle.igp_theory.specs.Migrations.{Migration, ospf_to_isis}
use Rattle.igp_theory.specs.Phases.{all_new}
use Rattle.order_search.specs.declared.found.Found.TheVariants.{Waves}
use Rattle.order_search.specs.Trees.{branch_count}
use Rattle.order_search.specs.declared.tree.Node.{Node}
use Rattle.plan_theory.specs.Plans.{IsPlanned}
use Rattle.plan_theory.specs.declared.items.Items.TheVariants.{Routers}
use Rattle.plan_theory.specs.declared.planned.Planned.{Planned}
use Rattle.plan_theory.specs.declared.planned.Planned.TheVariants.{UnsoundOld, UnsoundNew, Searched}
use Rattle.plan_theory.proofs.OnePlan.{one_plan}
use Rattle.wave_oracle.proofs.ReadBack.{plan_printable}
use Rattle.migrate_words.specs.declared.command.TheConstants.{USUAL_BUDGET}
use Rattle.migration_report.specs.Outcomes.{IsPlanTellable, IsTellable, plan_status}
use Rattle.migration_report.specs.declared.decision.Decision.{Decision}
use Rattle.migration_report.specs.declared.decision.Decision.TheVariants.{Plan, Summary}
use Rattle.migrate_cli.specs.PlanDecision.{IsPlanOver}
use Rattle.migrate_cli.specs.PlanDecision.IsPlanOver.{plans}
use Rattle.migrate_cli.specs.SampleDecision.{IsSampleDecision}
use Rattle.migrate_cli.specs.SampleDecision.IsSampleDecision.{summed_up, as_planned}
use Rattle.migrate_cli.proofs.FaultFacts.{fault_below}
use Rattle.migrate_cli.proofs.OriginatedFacts.{one_count}

-- a plan is of the network's routers
pub plan_tellable : (move : Migration) (budget : ℕ) (planned : Planned) → IsPlanned move budget planned → IsPlanTellable Routers move.net planned
plan_tellable move budget (UnsoundOld fault) is = fault_below move move.start fault is
plan_tellable move budget (UnsoundNew fault) is = fault_below move all_new fault is.last
plan_tellable move budget (Searched found) is = plan_printable Routers move budget found is.is_found

pub plan_decision_tellable : {budget : ℕ} {move : Migration} {d : Decision} → IsPlanOver move budget d → IsTellable move.net d
plan_decision_tellable {budget} {move} (plans planned _ _ is) = plan_tellable move budget planned is

pub one_plan_decision : {budget : ℕ} {move : Migration} {d e : Decision} → IsPlanOver move budget d → IsPlanOver move budget e → d ≡ e
one_plan_decision {budget} {move} (plans one _ _ is) (plans other _ _ its) = grind (arith, common_steps, one_plan)

-- ---- a sample ----

pub sample_tellable : {routers : ℕ} {net : Network} {d : Decision} → IsSampleDecision routers net d → IsTellable net d
sample_tellable (summed_up _ _ _ _ _ _ _ is _) = is.is_found.is_good.waves.each
sample_tellable {net = net} (as_planned planned _ _ _ is) = plan_tellable (ospf_to_isis net) USUAL_BUDGET planned is

-- the waves of a plan, and its trail
abbrev ranks_of : Planned → List ℕ
ranks_of (Searched (Waves ranks pairs chain trail)) = ranks
ranks_of _ = []

abbrev trail_of : Planned → List Node
trail_of (Searched (Waves ranks pairs chain trail)) = trail
trail_of _ = []

pub one_sample_decision : {routers : ℕ} {net : Network} {d e : Decision} → IsSampleDecision routers net d → IsSampleDecision routers net e → d ≡ e
one_sample_decision {routers} {net} (summed_up r p c t m _ _ is counted) (summed_up s q d u n _ _ its also) =
    let same = one_plan (ospf_to_isis net) USUAL_BUDGET (Searched (Waves r p c t)) (Searched (Waves s q d u)) is its in
    let ranks : r ≡ s = ap ranks_of same in
    let trails : t ≡ u = ap trail_of same in
    let count = one_count net m n counted also in
    λ i. Summary (record { routers = routers; prefixes = count i; branches = branch_count (trails i) }) (ranks i)
one_sample_decision {net = net} (summed_up r p c t _ _ _ is _) (as_planned other not_done _ _ its) =
    absurd (not_done (ap plan_status (sym (one_plan (ospf_to_isis net) USUAL_BUDGET (Searched (Waves r p c t)) other is its))))
one_sample_decision {net = net} (as_planned one not_done _ _ is) (summed_up r p c t _ _ _ its _) =
    absurd (not_done (ap plan_status (one_plan (ospf_to_isis net) USUAL_BUDGET one (Searched (Waves r p c t)) is its)))
one_sample_decision {net = net} (as_planned one _ _ _ is) (as_planned other _ _ _ its) =
    ap (λ (p : Planned). Plan p) (one_plan (ospf_to_isis net) USUAL_BUDGET one other is its)
