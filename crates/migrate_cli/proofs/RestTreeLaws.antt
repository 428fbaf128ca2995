-- `refute` decides one thing of a tree file from a start, and it holds over the tables of the network.
use Rattle.std.proofs.Common.{◌≡◌, ℕ, List, ap, subst}
use Rattle.igp_theory.specs.Laws.{HaveSameTables}
use Rattle.igp_theory.specs.Migrations.{Migration, migration, retabled, started}
use Rattle.igp_theory.specs.Ospf.{OspfEntry}
use Rattle.igp_theory.specs.Phases.{state_in}
use Rattle.igp_theory.specs.Routes.{Tables}
use Rattle.igp_theory.specs.declared.phase.Phase.{Phase}
use Rattle.net_model.specs.Network.{Network}
use Rattle.ospf_routes.specs.RouteTables.{table_at}
use Rattle.ospf_routes.specs.declared.source.OspfRoutes.{OspfRoutes}
use Rattle.plan_theory.specs.declared.items.Items.TheVariants.{Routers}
use Rattle.refutation_check.specs.RestVerdicts.{IsRestVerdict, IsStartedVerdict}
use Rattle.refutation_check.specs.RestVerdicts.{behind_rest_header, from_start, no_rest_header, no_start_line, wrong_start_line}
use Rattle.refutation_check.specs.declared.verdict.Verdict.{Verdict}
use Rattle.refutation_check.specs.declared.verdict.Verdict.TheVariants.{Closed, Unfinished, Wrong}
use Rattle.refutation_check.proofs.RestFacts.{one_rest}
use Rattle.refutation_check.proofs.SameVerdicts.{lines_verdict_over}
use Rattle.rib_mix.specs.Mixture.{Mixture, migration_of}
use Rattle.migration_report.specs.Outcomes.{IsTellable, decision_status}
use Rattle.migration_report.specs.declared.decision.Decision.{Decision}
use Rattle.migration_report.specs.declared.decision.Decision.TheVariants.{Tree}
use Rattle.migrate_cli.specs.ChangesPromise.{DecidesRestTree}
use Rattle.migrate_cli.specs.ChangesPromise.DecidesRestTree.{closed_rest, no_closed_rest}
use Rattle.migrate_cli.specs.RestDecision.{IsRestTree}
use Rattle.migrate_cli.specs.RestDecision.IsRestTree.{judged_rest}
use Rattle.migrate_cli.specs.declared.tables.NewRoutes.{NewRoutes}
use Rattle.migrate_cli.specs.steps.Tables.{MixesTables, NetworkMove, move_of, new_entries, new_table}
use Rattle.migrate_cli.proofs.RefuteLaws.{closed_or_unfinished, closed_or_wrong}

-- ---- over other tables ----

-- a migration that goes on from a state has the same tables
pub started_tables : {move : Migration} {old' new' : Tables} (start : List Phase) → HaveSameTables move old' new' →
    HaveSameTables (started (state_in start) move) old' new'
started_tables start same = record { same_old = same.same_old; same_new = same.same_new }

module _ (move : Migration) (old' new' : Tables) (same : HaveSameTables move old' new') where
  started_over : (lines : List (List ℕ)) (verdict : Verdict) → IsStartedVerdict move lines verdict →
      IsStartedVerdict (retabled move old' new') lines verdict
  started_over lines verdict (no_start_line none) = no_start_line none
  started_over lines verdict (wrong_start_line line nodes kind is low) = wrong_start_line line nodes kind is low
  started_over lines verdict (from_start start found begins) = from_start start found (record {
    line = begins.line;
    nodes = begins.nodes;
    lines_are = begins.lines_are;
    says = begins.says;
    holds =
        lines_verdict_over Routers (started (state_in start) move) old' new' (started_tables start same) 3 begins.nodes found begins.holds;
  })

  rest_over : (text : List ℕ) (verdict : Verdict) → IsRestVerdict move text verdict → IsRestVerdict (retabled move old' new') text verdict
  rest_over text verdict (no_rest_header none) = no_rest_header none
  rest_over text verdict (behind_rest_header found is) = behind_rest_header found
      (record { lines = is.lines; text_is = is.text_is; holds = started_over is.lines found is.holds })

-- over a mixture of the tables of a migration a text has its verdict
module _ (of : NetworkMove) (m : Mixture OspfRoutes NewRoutes) (mixes : MixesTables of m) where
  abbrev moved : Network → Migration
  moved n = migration n (OspfEntry of.net) (new_entries of.net of.redesign)

  pub rest_verdict : (text : List ℕ) (verdict : Verdict) → IsRestVerdict (migration_of table_at new_table m) text verdict →
      IsRestVerdict (move_of of) text verdict
  rest_verdict text verdict is =
      subst (λ (n : Network). IsRestVerdict (moved n) text verdict) mixes.net_is
      (rest_over (migration_of table_at new_table m) (moved of.net).old (moved of.net).new mixes.same text verdict is)

-- ---- one decision ----

pub one_rest_tree : {move : Migration} {tree : List ℕ} {d e : Decision} → IsRestTree move tree d → IsRestTree move tree e → d ≡ e
one_rest_tree {move} {tree} (judged_rest one network is _) (judged_rest other _ its _) =
    ap (λ (v : Verdict). Tree v) (one_rest move network tree one other is its)

pub rest_tree_tellable : {move : Migration} {tree : List ℕ} {d : Decision} → IsRestTree move tree d → IsTellable move.net d
rest_tree_tellable (judged_rest _ _ _ _) = tt

-- so it tells whether the tree is closed
pub rest_tree_decides : (tree : List ℕ) (move : Migration) {d : Decision} → IsRestTree move tree d →
    DecidesRestTree move tree (decision_status d)
rest_tree_decides tree move (judged_rest (Closed b l) network is none) = closed_rest b l is none
rest_tree_decides tree move (judged_rest (Unfinished u) network is _) =
    no_closed_rest (λ b l other. closed_or_unfinished b l u (one_rest move network tree (Closed b l) (Unfinished u) other is))
rest_tree_decides tree move (judged_rest (Wrong n k) network is _) =
    no_closed_rest (λ b l other. closed_or_wrong b l n k (one_rest move network tree (Closed b l) (Wrong n k) other is))
