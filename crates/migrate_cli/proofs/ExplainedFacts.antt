-- What is told over mixed forwarding, and over the tables before and after, is so of the migration.
use Rattle.std.proofs.Common.{◌≡◌, ◌<◌, ℕ, List, length, subst, sym}
use Rattle.change_orders.specs.TwoFiles.{AreTwoWaves}
use Rattle.igp_theory.specs.LoopLaws.{BeginsOld}
use Rattle.igp_theory.specs.Timetables.{IsTimetable, change_times}
use Rattle.plan_theory.specs.Ranked.{changes_ranked}
use Rattle.plan_theory.proofs.ChangesServe.{changes_serve}
use Rattle.plan_theory.proofs.Serving.{Serves}
use Rattle.wave_oracle.proofs.ChangeRankings.{two_waves_keep}
use Rattle.igp_theory.specs.Laws.{HaveSameTables}
use Rattle.igp_theory.specs.Loops.{Fault}
use Rattle.igp_theory.specs.Migrations.{Migration, listed_migration, migration}
use Rattle.igp_theory.specs.Ospf.{OspfEntry}
use Rattle.igp_theory.proofs.SameTables.{same_tables_sym}
use Rattle.net_model.specs.Network.{Network}
use Rattle.ospf_routes.specs.RouteTables.{table_at}
use Rattle.ospf_routes.specs.declared.source.OspfRoutes.{OspfRoutes}
use Rattle.rib_mix.specs.Mixture.{Mixture, migration_of}
use Rattle.route_core.specs.Tables.{HasEntry}
use Rattle.explained_texts.specs.ReasonTexts.{IsReasonsText}
use Rattle.explained_texts.specs.WayTexts.{IsFaultInSpan, IsWayText, StateSpan}
use Rattle.explained_texts.proofs.SameTexts.{reasons_over, stands_over, way_over}
use Rattle.explained_changes.specs.ChangeReasonTexts.{IsChangeReasonsText}
use Rattle.explained_changes.proofs.SameChangeTexts.{change_reasons_over}
use Rattle.migrate_cli.specs.declared.tables.NewRoutes.{NewRoutes}
use Rattle.migrate_cli.specs.steps.Tables.{AreBothTables, MixesTables, NetworkMove, move_of, new_entries, new_table}

-- a wave list of single changes, each router's first before its second, has a timetable
pub change_table : (move : Migration) (ranks : List ℕ) → BeginsOld move → AreTwoWaves (length move.net) ranks →
    IsTimetable (length move.net) move.start (change_times ranks)
change_table move ranks begins turns =
    let serves : Serves move (changes_ranked move) = changes_serve move begins in
    serves.table ranks turns.ranking (two_waves_keep (length move.net) ranks turns)

module _ (of : NetworkMove) (m : Mixture OspfRoutes NewRoutes) (mixes : MixesTables of m) where
  -- the migration, over some network
  abbrev moved : Network → Migration
  moved n = migration n (OspfEntry of.net) (new_entries of.net of.redesign)

  pub reasons_of : (ranks text : List ℕ) → IsReasonsText (migration_of table_at new_table m) ranks text → IsReasonsText (move_of of) ranks text
  reasons_of ranks text is = subst (λ (n : Network). IsReasonsText (moved n) ranks text) mixes.net_is (reasons_over mixes.same is)

  pub change_reasons_of : (ranks text : List ℕ) → IsChangeReasonsText (migration_of table_at new_table m) ranks text →
      IsChangeReasonsText (move_of of) ranks text
  change_reasons_of ranks text is =
      subst (λ (n : Network). IsChangeReasonsText (moved n) ranks text) mixes.net_is (change_reasons_over mixes.same is)

  -- the tables before and after, and those that are mixed
  module _ (old : OspfRoutes) (new : NewRoutes) (tables : AreBothTables of old new) where
    abbrev given : Network → Migration
    given n = listed_migration n (table_at old) (new_table new)

    below : (u : ℕ) → u < length of.net → u < length m.net
    below u within = subst (λ (n : Network). u < length n) (sym mixes.net_is) within

    same_given : HaveSameTables (given of.net) (HasEntry (table_at m.old)) (HasEntry (new_table m.new))
    same_given = record {
      same_old = λ u p e within.
          let one = tables.old_tables.entries u p e within in
          let other = mixes.same.same_old u p e (below u within) in (λ has. other.1 (one.0 has), λ has. one.1 (other.0 has));
      same_new = λ u p e within.
          let one = tables.new_tables.entries u p e within in
          let other = mixes.same.same_new u p e (below u within) in (λ has. other.1 (one.0 has), λ has. one.1 (other.0 has));
    }

    pub given_mixed : (net : Network) → net ≡ of.net → HaveSameTables (given net) (HasEntry (table_at m.old)) (HasEntry (new_table m.new))
    given_mixed net same =
        subst (λ (n : Network). HaveSameTables (given n) (HasEntry (table_at m.old)) (HasEntry (new_table m.new))) (sym same) same_given

    pub stands_given : (net : Network) (span : StateSpan) (fault : Fault) → net ≡ of.net →
        IsFaultInSpan (migration_of table_at new_table m) span fault → IsFaultInSpan (given net) span fault
    stands_given net span fault same stands =
        subst (λ (n : Network). IsFaultInSpan (given n) span fault) (sym same)
        (stands_over (same_tables_sym same_given)
        (subst (λ (n : Network). IsFaultInSpan (listed_migration n (table_at m.old) (new_table m.new)) span fault) mixes.net_is stands))

    -- and the way that is told over them
    pub way_of : (net : Network) (span : StateSpan) (fault : Fault) (text : List ℕ) → net ≡ of.net → IsWayText (given net) span fault text →
        IsWayText (move_of of) span fault text
    way_of net span fault text same is =
        let are : HaveSameTables (given of.net) (OspfEntry of.net) (new_entries of.net of.redesign) =
        record { same_old = tables.old_tables.entries; same_new = tables.new_tables.entries } in
        way_over are (subst (λ (n : Network). IsWayText (given n) span fault text) same is)
