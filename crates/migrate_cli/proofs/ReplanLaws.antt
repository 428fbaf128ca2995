-- `replan` decides one thing of an order file, a journal and a network.
use Rattle.std.proofs.Common.{◌≡◌, ℕ, List, ap, length, subst, sym, ◌∙◌}
use Rattle.std.proofs.lemmas.List.{length-map}
use Rattle.igp_theory.specs.Migrations.{Migration, migration, ospf_to_isis, started}
use Rattle.igp_theory.specs.Ospf.{OspfEntry}
use Rattle.igp_theory.specs.Phases.{state_in}
use Rattle.igp_theory.specs.States.{phase_after}
use Rattle.igp_theory.specs.declared.phase.Phase.{Phase}
use Rattle.net_model.specs.Network.{Network}
use Rattle.net_model.specs.Refusals.{NamesAscend}
use Rattle.ospf_routes.specs.RouteTables.{table_at}
use Rattle.ospf_routes.specs.declared.source.OspfRoutes.{OspfRoutes}
use Rattle.plan_theory.specs.Plans.{IsPlanned}
use Rattle.plan_theory.specs.declared.items.Items.TheVariants.{Routers}
use Rattle.plan_theory.specs.declared.planned.Planned.{Planned}
use Rattle.plan_theory.proofs.OnePlan.{one_plan}
use Rattle.plan_theory.proofs.PlanTables.{night_planned_over}
use Rattle.rib_mix.specs.Mixture.{Mixture, migration_of}
use Rattle.state_replay.specs.Journals.{HasReached, progress}
use Rattle.state_replay.specs.declared.place.Place.TheVariants as place
use Rattle.state_replay.proofs.Places.{one_place}
use Rattle.step_scripts.proofs.WaveFileLaws.{no_fault, one_faulty_line, one_wave_list}
use Rattle.migration_report.specs.Outcomes.{IsTellable}
use Rattle.migration_report.specs.declared.decision.Decision.{Decision}
use Rattle.migration_report.specs.declared.decision.Decision.TheVariants.{Rest, Departs, BadOrder}
use Rattle.migrate_cli.specs.Reading.{NamedText}
use Rattle.migrate_cli.specs.ReplanDecision.{IsReplanDecision, IsRestPlanned, phases_made, stopped_at}
use Rattle.migrate_cli.specs.ReplanDecision.IsReplanDecision.{faulty_waves, of_waves}
use Rattle.migrate_cli.specs.ReplanDecision.IsRestPlanned.{departs, plans_rest}
use Rattle.migrate_cli.specs.ReplayDecision.{Journal}
use Rattle.migrate_cli.specs.declared.tables.NewRoutes.{NewRoutes}
use Rattle.migrate_cli.specs.steps.Tables.{MixesTables, NetworkMove, move_of, new_entries, new_table}
use Rattle.migrate_cli.proofs.PlanLaws.{plan_tellable}
use Rattle.migrate_cli.proofs.RestTreeLaws.{started_tables}

-- ---- over the tables of a migration ----

module _ (of : NetworkMove) (m : Mixture OspfRoutes NewRoutes) (mixes : MixesTables of m) where
  abbrev moved : Network → Migration
  moved n = migration n (OspfEntry of.net) (new_entries of.net of.redesign)

  -- what is planned from a start
  pub rest_planned_of : (start : List Phase) (budget : ℕ) (planned : Planned) →
      IsPlanned (started (state_in start) (migration_of table_at new_table m)) budget planned →
      IsPlanned (started (state_in start) (move_of of)) budget planned
  rest_planned_of start budget planned is =
      subst (λ (n : Network). IsPlanned (started (state_in start) (moved n)) budget planned) mixes.net_is
      (night_planned_over (started (state_in start) (migration_of table_at new_table m)) (moved of.net).old (moved of.net).new
      (started_tables start mixes.same) Routers budget planned is)

-- ---- one decision ----

-- there are as many phases as routers
pub phases_each : (journal : Journal) (ranks done : List ℕ) (made : ℕ) → HasReached (progress journal.net ranks done) journal.text made →
    length (phases_made done) ≡ length journal.net
phases_each journal ranks done made at = length-map done phase_after ∙ at.replayed.counts.each

one_rest_plan : (move : Migration) (journal : Journal) (ranks : List ℕ) (budget : ℕ) {d e : Decision} → NamesAscend journal.net →
    IsRestPlanned move journal ranks budget d → IsRestPlanned move journal ranks budget e → d ≡ e
one_rest_plan move journal ranks budget ascending (plans_rest made done one at _ _ is) (plans_rest many counts other there _ _ its) =
    let same = one_place journal.net ranks journal.text ascending (place.Reached made) (place.Reached many) done counts at there in
    let counted : done ≡ counts = same.1 in
    ap (λ (p : Planned). Rest (phases_made done) p)
    (one_plan (stopped_at done move) budget one other is (subst (λ (l : List ℕ). IsPlanned (stopped_at l move) budget other) (sym counted) its))
    ∙ ap (λ (l : List ℕ). Rest (phases_made l) other) counted
one_rest_plan move journal ranks budget ascending (plans_rest made done _ at _ _ _) (departs line counts its) =
    absurd (let same = one_place journal.net ranks journal.text ascending (place.Reached made) (place.Departs line) done counts at its in Prim.cc same.0)
one_rest_plan move journal ranks budget ascending (departs line counts its) (plans_rest made done _ at _ _ _) =
    absurd (let same = one_place journal.net ranks journal.text ascending (place.Departs line) (place.Reached made) counts done its at in Prim.cc same.0)
one_rest_plan move journal ranks budget ascending (departs line done at) (departs number counts its) =
    let same = one_place journal.net ranks journal.text ascending (place.Departs line) (place.Departs number) done counts at its in
    let line_same : line ≡ number = cc (same.0) in
    ap (λ n. Departs n) line_same

pub one_replan_decision : (order : NamedText) (journal : Journal) (budget : ℕ) {d e : Decision} → NamesAscend journal.net →
    IsReplanDecision order journal budget d → IsReplanDecision order journal budget e → d ≡ e
one_replan_decision order journal budget ascending (faulty_waves n k one) (faulty_waves m j other) =
    let same = one_faulty_line journal.net order.text n m k j one other in λ i. BadOrder order.file (same.0 i) (same.1 i)
one_replan_decision order journal budget ascending (faulty_waves n k least) (of_waves version ranks _ names _) =
    absurd (no_fault journal.net order.text version ranks n k ascending names least.faulty)
one_replan_decision order journal budget ascending (of_waves version ranks _ names _) (faulty_waves n k least) =
    absurd (no_fault journal.net order.text version ranks n k ascending names least.faulty)
one_replan_decision order journal budget {e = e} ascending (of_waves version one _ names is) (of_waves its other _ again are) =
    let same : one ≡ other = (one_wave_list journal.net order.text version its one other ascending names again).1 in
    one_rest_plan (ospf_to_isis journal.net) journal one budget ascending is
    (subst (λ ranks. IsRestPlanned (ospf_to_isis journal.net) journal ranks budget e) (sym same) are)

rest_plan_tellable : {journal : Journal} {ranks : List ℕ} {budget : ℕ} {d : Decision} →
    IsRestPlanned (ospf_to_isis journal.net) journal ranks budget d → IsTellable journal.net d
rest_plan_tellable {journal} {ranks} {budget} (plans_rest made done planned at _ _ is) =
    (phases_each journal ranks done made at, plan_tellable (stopped_at done (ospf_to_isis journal.net)) budget planned is)
rest_plan_tellable (departs _ _ _) = tt

pub replan_tellable : {order : NamedText} {journal : Journal} {budget : ℕ} {d : Decision} → IsReplanDecision order journal budget d →
    IsTellable journal.net d
replan_tellable (faulty_waves _ _ _) = tt
replan_tellable {journal = journal} (of_waves _ ranks _ _ is) = rest_plan_tellable {journal = journal} {ranks = ranks} is
