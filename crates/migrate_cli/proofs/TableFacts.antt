-- What is found over the tables before and after a migration holds of it.
use Rattle.std.proofs.Common.{◌≡◌, ◌∙◌, ℕ, List, Result, Ok, Err, IfOk, None, Some, arith, length, subst, sym}
use Rattle.igp_theory.specs.Laws.{HaveSameTables}
use Rattle.igp_theory.specs.Loops.{Fault, IsFirstFault}
use Rattle.igp_theory.specs.Migrations.{Migration, listed_migration, migration}
use Rattle.igp_theory.specs.Ospf.{OspfEntry}
use Rattle.igp_theory.specs.Routes.{HaveSameEntries, Tables}
use Rattle.igp_theory.specs.States.{IsSeamless}
use Rattle.igp_theory.specs.Timetables.{IsSoundThroughout, Timetable}
use Rattle.igp_theory.specs.WaveFaults.{IsTimesFault}
use Rattle.igp_theory.specs.Waves.{AreSeamlessWaves, HasNoneSeamless}
use Rattle.igp_theory.proofs.SameTables.{first_fault_over, seamless_over, sound_over}
use Rattle.igp_theory.proofs.WaveFaultLaws.{seamless_waves_over, times_fault_over}
use Rattle.isis_routes.specs.RouteTables.{AreIsisRoutes}
use Rattle.net_model.specs.Network.{Network}
use Rattle.ospf_routes.specs.RouteTables.{AreOspfRoutes, table_at}
use Rattle.ospf_routes.specs.declared.source.OspfRoutes.{OspfRoutes}
use Rattle.plan_theory.specs.Plans.{IsNightPlanned, IsPlanned}
use Rattle.plan_theory.specs.declared.planned.Planned.{Planned}
use Rattle.plan_theory.specs.declared.items.Items.TheVariants.{Changes}
use Rattle.refutation_check.specs.TreeLines.{two_tree_header}
use Rattle.refutation_check.specs.Verdicts.{IsTextVerdict, IsTwoVerdict, RefutesWhereClosed}
use Rattle.refutation_check.specs.declared.verdict.Verdict.{Verdict}
use Rattle.refutation_check.specs.declared.verdict.Verdict.TheVariants.{Closed, Unfinished, Wrong}
use Rattle.refutation_check.proofs.SameVerdicts as same_verdicts
use Rattle.rib_mix.specs.Mixture.{Mixture, migration_of}
use Rattle.route_core.specs.Tables.{HasEntry}
use Rattle.route_tables.specs.Tables.{Routes}
use Rattle.migrate_cli.specs.declared.tables.NewRoutes.{NewRoutes}
use Rattle.migrate_cli.specs.declared.tables.NewRoutes.TheVariants.{Isis, Ospf}
use Rattle.migrate_cli.specs.steps.Tables.{AreBothTables, AreNewRoutes, MixesTables, NetworkMove, move_of, network_move, new_entries, new_table}
use Rattle.plan_theory.proofs.PlanTables.{night_planned_over, planned_over}

-- a mixture of the tables of a migration
module _ (of : NetworkMove) (old : OspfRoutes) (new : NewRoutes) (tables : AreBothTables of old new) where
  abbrev entries : Tables
  entries = new_entries of.net of.redesign

  mixes_tables : (m : Mixture OspfRoutes NewRoutes) → m.net ≡ of.net → m.old ≡ old → m.new ≡ new → MixesTables of m
  mixes_tables m net_is old_is new_is =
      let same_old : HaveSameEntries of.net (HasEntry (table_at m.old)) (OspfEntry of.net) =
      subst (λ (o : OspfRoutes). HaveSameEntries of.net (HasEntry (table_at o)) (OspfEntry of.net)) (sym old_is) tables.old_tables.entries in
      let same_new : HaveSameEntries of.net (HasEntry (new_table m.new)) entries =
      subst (λ (n : NewRoutes). HaveSameEntries of.net (HasEntry (new_table n)) entries) (sym new_is) tables.new_tables.entries in
      record {
        net_is = net_is;
        same =
            subst (λ (some : Network). HaveSameTables (listed_migration some (table_at m.old) (new_table m.new)) (OspfEntry of.net) entries)
            (sym net_is) (record { same_old = same_old; same_new = same_new });
      }

  pub mixed_tables : {E : Type 0} (r : Result (Mixture OspfRoutes NewRoutes) E) → IfOk r (λ m. m.net ≡ of.net) → IfOk r (λ m. m.old ≡ old) →
      IfOk r (λ m. m.new ≡ new) → IfOk r (MixesTables of)
  mixed_tables (Ok m) net_is old_is new_is = mixes_tables m net_is old_is new_is
  mixed_tables (Err e) net_is old_is new_is = tt

-- what holds over such a mixture holds of the migration
module _ (of : NetworkMove) (m : Mixture OspfRoutes NewRoutes) (mixes : MixesTables of m) where
  -- the migration, over some network
  abbrev moved : Network → Migration
  moved n = migration n (OspfEntry of.net) (new_entries of.net of.redesign)

  pub seamless_order : (order : List ℕ) → IsSeamless (migration_of table_at new_table m) order → IsSeamless (move_of of) order
  seamless_order order is = subst (λ (n : Network). IsSeamless (moved n) order) mixes.net_is (seamless_over mixes.same is)

  pub first_fault : (order : List ℕ) (k : ℕ) (fault : Fault) → IsFirstFault (migration_of table_at new_table m) order k fault →
      IsFirstFault (move_of of) order k fault
  first_fault order k fault is =
      subst (λ (n : Network). IsFirstFault (moved n) order k fault) mixes.net_is (first_fault_over mixes.same is)

  pub seamless_waves : (ranks : List ℕ) → AreSeamlessWaves (migration_of table_at new_table m) ranks → AreSeamlessWaves (move_of of) ranks
  seamless_waves ranks is =
      subst (λ (n : Network). AreSeamlessWaves (moved n) ranks) mixes.net_is (seamless_waves_over mixes.same is)

  pub sound_throughout : (time : Timetable) → IsSoundThroughout (migration_of table_at new_table m) time → IsSoundThroughout (move_of of) time
  sound_throughout time is =
      subst (λ (n : Network). IsSoundThroughout (moved n) time) mixes.net_is
      (record { table = is.table; sound = λ state reached. sound_over mixes.same (is.sound state reached) })

  pub times_fault : (time : Timetable) (w : ℕ) (fault : Fault) → IsTimesFault (migration_of table_at new_table m) time w fault →
      IsTimesFault (move_of of) time w fault
  times_fault time w fault is =
      subst (λ (n : Network). IsTimesFault (moved n) time w fault) mixes.net_is (times_fault_over mixes.same is)

  pub planned_of : (budget : ℕ) (planned : Planned) → IsPlanned (migration_of table_at new_table m) budget planned →
      IsPlanned (move_of of) budget planned
  planned_of budget planned is =
      subst (λ (n : Network). IsPlanned (moved n) budget planned) mixes.net_is
      (planned_over (migration_of table_at new_table m) (moved of.net).old (moved of.net).new mixes.same budget planned is)

  pub changes_planned_of : (budget : ℕ) (planned : Planned) → IsNightPlanned Changes (migration_of table_at new_table m) budget planned →
      IsNightPlanned Changes (move_of of) budget planned
  changes_planned_of budget planned is =
      subst (λ (n : Network). IsNightPlanned Changes (moved n) budget planned) mixes.net_is
      (night_planned_over (migration_of table_at new_table m) (moved of.net).old (moved of.net).new mixes.same Changes budget planned is)

  pub text_verdict : (text : List ℕ) (verdict : Verdict) → IsTextVerdict (migration_of table_at new_table m) text verdict →
      IsTextVerdict (move_of of) text verdict
  text_verdict text verdict is =
      subst (λ (n : Network). IsTextVerdict (moved n) text verdict) mixes.net_is
      (same_verdicts.verdict_over (migration_of table_at new_table m) (moved of.net).old (moved of.net).new mixes.same text verdict is)

  pub two_verdict : (text : List ℕ) (verdict : Verdict) → IsTwoVerdict (migration_of table_at new_table m) text verdict →
      IsTwoVerdict (move_of of) text verdict
  two_verdict text verdict is =
      subst (λ (n : Network). IsTwoVerdict (moved n) text verdict) mixes.net_is
      (same_verdicts.headed_over Changes (migration_of table_at new_table m) (moved of.net).old (moved of.net).new mixes.same two_tree_header text verdict is)

  pub refutes_where_closed : (verdict : Verdict) → RefutesWhereClosed (migration_of table_at new_table m) verdict →
      RefutesWhereClosed (move_of of) verdict
  refutes_where_closed (Closed b l) is =
      subst (λ (n : Network). HasNoneSeamless (moved n)) mixes.net_is
      (same_verdicts.none_over (migration_of table_at new_table m) (moved of.net).old (moved of.net).new mixes.same is)
  refutes_where_closed (Unfinished u) is = tt
  refutes_where_closed (Wrong line kind) is = tt

-- the tables of the redesign are those of as many routers
pub redesign_tables : (net new : Network) (routes : Routes) → length new ≡ length net → AreOspfRoutes new routes →
    AreNewRoutes (network_move net (Some new)) (Ospf routes)
redesign_tables net new routes same are = record {
  routers = are.routers ∙ same;
  entries = λ u p e below. are.entries u p e (omega (arith, below, same));
}

-- and those of IS-IS of as many
pub isis_tables : (net : Network) (routes : Routes) → AreIsisRoutes net routes → AreNewRoutes (network_move net None) (Isis routes)
isis_tables net routes are = record { routers = are.routers; entries = are.entries }
