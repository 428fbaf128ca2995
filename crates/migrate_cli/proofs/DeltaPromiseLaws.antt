-- What a call of `delta` wrote are the new lines alone.
use Rattle.std.proofs.Common.{◌≡◌, ◌≢◌, [], ℕ, List, subst}
use Rattle.store_edge.specs.Sink.{AddsBytes}
use Rattle.design_file.specs.Answers.{SaysDesign}
use Rattle.isis_writer.proofs.DeltaPieces.{delta_of_pieces}
use Rattle.migrate_words.specs.Asked.{Asks}
use Rattle.migration_report.specs.Outcomes.{decision_status, decision_text, status_of, outcome_text}
use Rattle.migration_report.specs.declared.decision.Decision.{Decision}
use Rattle.migration_report.specs.declared.outcome.Outcome.{Outcome}
use Rattle.migration_report.specs.declared.status.Status.TheVariants.{Done, ReadFault}
use Rattle.migrate_cli.specs.Answers.{IsAnswer}
use Rattle.migrate_cli.specs.Calls.{Call, Course}
use Rattle.migrate_cli.specs.CommandFiles.{config_texts}
use Rattle.migrate_cli.specs.Completeness.{Writes}
use Rattle.migrate_cli.specs.Completeness.Writes.{written}
use Rattle.migrate_cli.specs.DeltaDecision.{IsDeltaDecision, settled_lines_alone}
use Rattle.migrate_cli.specs.DeltaPromise.{AcceptsDelta, HasDelta, delta_of}
use Rattle.migrate_cli.specs.PrepareDecision.{configured}
use Rattle.migrate_cli.proofs.CompletenessLaws.{ends_decided, said_of}
use Rattle.migrate_cli.proofs.DecidedLaws.{HasDecided, answer_decided, done_no_refusal}
use Rattle.migrate_cli.proofs.PreparePromiseLaws.{own_is}
use Rattle.migrate_cli.proofs.SettlingLaws.{done_is_settled, settled_writes}

module _ (call : Call) (file : List ℕ) (configs : List (List ℕ)) (outside : Course) (asks : Asks call.words (delta_of file configs)) where
  by_decision : {outcome : Outcome} (it : HasDecided call (delta_of file configs) outcome) (d : Decision) →
      IsDeltaDecision it.is.0 (configured (config_texts (delta_of file configs) it.texts) it.net) d →
      AddsBytes outside.before.written outside.after.written (decision_text it.net d) → decision_status d ≡ Done → HasDelta call file configs outside
  by_decision it d is writes done =
      let routers = configured (config_texts (delta_of file configs) it.texts) it.net in
      let found = done_is_settled it.is.0 it.net (settled_lines_alone routers) is done in
      record {
        texts = it.texts;
        read = it.read;
        within = it.within;
        net = it.net;
        gives = it.gives.0;
        text = it.is.0.text;
        text_is = own_is file it.texts it.is.0 it.is.1;
        design = found.2.said;
        says = found.2.says;
        settled = found.0;
        settles = found.2.settles;
        adds = subst (λ (some : Decision). AddsBytes outside.before.written outside.after.written (decision_text it.net some)) found.1 writes;
        alone = λ k d within configurations. delta_of_pieces _ it.net found.0 configurations;
      }

  pub new_lines_alone : {asked : List (List ℕ)} {outcome : Outcome} → IsAnswer call asked outcome →
      AddsBytes outside.before.written outside.after.written (outcome_text outcome) → status_of outcome ≡ Done → HasDelta call file configs outside
  new_lines_alone is adds done =
      let it = answer_decided (λ status. status ≡ Done) done_no_refusal call (delta_of file configs) tt asks is done in
      by_decision it it.decision it.is.2
      (subst (λ (o : Outcome). AddsBytes outside.before.written outside.after.written (outcome_text o)) it.outcome_is adds)
      (subst (λ (o : Outcome). status_of o ≡ Done) it.outcome_is done)

pub delta_writes : (call : Call) → AcceptsDelta call → (asked : List (List ℕ)) (outcome : Outcome) → status_of outcome ≢ ReadFault →
    IsAnswer call asked outcome → Writes (status_of outcome)
delta_writes call it =
    ends_decided call (delta_of it.file it.configs) it.texts it.net [] it.accepted Writes
    (λ decision is. settled_writes is.0 it.net (settled_lines_alone (configured (config_texts (delta_of it.file it.configs) it.texts) it.net))
    it.design it.settled (λ some. written) (said_of it.file (λ t. SaysDesign t it.design) it.text_is is.1 it.says) it.settles is.2)
