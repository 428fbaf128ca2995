-- What a call of `tables` promises.
use Rattle.std.proofs.Common.{◌≡◌, ◌≢◌, [], ℕ, List, subst}
use Rattle.store_edge.specs.Sink.{AddsBytes}
use Rattle.migrate_words.specs.Asked.{Asks}
use Rattle.migration_report.specs.Outcomes.{decision_text, status_of, outcome_text}
use Rattle.migration_report.specs.declared.decision.Decision.{Decision}
use Rattle.migration_report.specs.declared.outcome.Outcome.{Outcome}
use Rattle.migration_report.specs.declared.status.Status.TheVariants.{Done, ReadFault}
use Rattle.migrate_cli.specs.Answers.{IsAnswer}
use Rattle.migrate_cli.specs.Calls.{Call, Course}
use Rattle.migrate_cli.specs.Completeness.{Writes}
use Rattle.migrate_cli.specs.TablesDecision.{IsTablesDecision}
use Rattle.migrate_cli.specs.TablesDecision.IsTablesDecision.{shown}
use Rattle.migrate_cli.specs.TablesPromise.{AcceptsTables, HasTables, tables_of}
use Rattle.migrate_cli.proofs.CompletenessLaws.{ends_decided}
use Rattle.migrate_cli.proofs.DecidedLaws.{HasDecided, answer_decided, done_no_refusal}
use Rattle.migrate_cli.proofs.TablesLaws.{tables_write}

module _ (call : Call) (configs : List (List ℕ)) (outside : Course) (asks : Asks call.words (tables_of configs)) where
  by_decision : {outcome : Outcome} (it : HasDecided call (tables_of configs) outcome) (d : Decision) → IsTablesDecision it.net d →
      AddsBytes outside.before.written outside.after.written (decision_text it.net d) → HasTables call configs outside
  by_decision it d (shown text is) writes = record {
    texts = it.texts;
    read = it.read;
    within = it.within;
    net = it.net;
    gives = it.gives.0;
    written = text;
    adds = writes;
    exact = is;
  }

  pub has_tables : {asked : List (List ℕ)} {outcome : Outcome} → IsAnswer call asked outcome →
      AddsBytes outside.before.written outside.after.written (outcome_text outcome) → status_of outcome ≡ Done → HasTables call configs outside
  has_tables is adds done =
      let it = answer_decided (λ status. status ≡ Done) done_no_refusal call (tables_of configs) tt asks is done in
      by_decision it it.decision it.is
      (subst (λ (o : Outcome). AddsBytes outside.before.written outside.after.written (outcome_text o)) it.outcome_is adds)

pub tables_are_written : (call : Call) → AcceptsTables call → (asked : List (List ℕ)) (outcome : Outcome) → status_of outcome ≢ ReadFault →
    IsAnswer call asked outcome → Writes (status_of outcome)
tables_are_written call it = ends_decided call (tables_of it.configs) it.texts it.net [] it.accepted Writes (λ decision is. tables_write is)
