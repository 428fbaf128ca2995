-- `tables` decides one thing of a network, and its text is that of the entries of the definitions.
use Rattle.std.proofs.Common.{◌≡◌, ℕ, List, ap}
use Rattle.net_model.specs.Network.{Network}
use Rattle.igp_theory.specs.Isis.{IsisEntry}
use Rattle.igp_theory.specs.Laws.{HaveSameTables}
use Rattle.igp_theory.specs.Migrations.{listed_migration, ospf_to_isis}
use Rattle.igp_theory.specs.Ospf.{OspfEntry}
use Rattle.isis_routes.specs.RouteTables.{AreIsisRoutes}
use Rattle.ospf_routes.specs.RouteTables.{AreOspfRoutes, table_at}
use Rattle.route_tables.specs.Tables.{Routes}
use Rattle.shown_tables.proofs.InOrder.{one_text, same_text}
use Rattle.shown_tables.specs.TablesTexts.{IsTablesText}
use Rattle.migration_report.specs.Outcomes.{IsTellable, decision_status}
use Rattle.migration_report.specs.declared.decision.Decision.{Decision}
use Rattle.migration_report.specs.declared.decision.Decision.TheVariants.{Tables}
use Rattle.migrate_cli.specs.Completeness.{Writes}
use Rattle.migrate_cli.specs.Completeness.Writes.{written}
use Rattle.migrate_cli.specs.TablesDecision.{IsTablesDecision}
use Rattle.migrate_cli.specs.TablesDecision.IsTablesDecision.{shown}

pub one_tables_decision : {net : Network} {d e : Decision} → IsTablesDecision net d → IsTablesDecision net e → d ≡ e
one_tables_decision {net} (shown text is) (shown other its) = ap (λ (t : List ℕ). Tables t) (one_text (ospf_to_isis net) text other is its)

pub tables_tellable : {net : Network} {d : Decision} → IsTablesDecision net d → IsTellable net d
tables_tellable (shown _ _) = tt

pub tables_write : {net : Network} {d : Decision} → IsTablesDecision net d → Writes (decision_status d)
tables_write (shown _ _) = written

-- the text of the tables that the code holds is that of the entries of the definitions
pub text_of_routes : (net : Network) (old new : Routes) (text : List ℕ) → AreOspfRoutes net old → AreIsisRoutes net new →
    IsTablesText (listed_migration net (table_at old) (table_at new)) text → IsTablesText (ospf_to_isis net) text
text_of_routes net old new text are_old are_new is =
    let same : HaveSameTables (listed_migration net (table_at old) (table_at new)) (OspfEntry net) (IsisEntry net) =
    record { same_old = are_old.entries; same_new = are_new.entries } in
    same_text (listed_migration net (table_at old) (table_at new)) (OspfEntry net) (IsisEntry net) text same is
