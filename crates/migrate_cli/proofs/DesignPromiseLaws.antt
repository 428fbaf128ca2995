-- What a call of `design` wrote is the design by costs of its network.
use Rattle.std.proofs.Common.{◌≡◌, ◌≢◌, [], ℕ, List, subst}
use Rattle.store_edge.specs.Sink.{AddsBytes}
use Rattle.migrate_words.specs.Asked.{Asks}
use Rattle.migrate_words.specs.Schemes.{AskedScheme}
use Rattle.migration_report.specs.Outcomes.{decision_text, outcome_text, status_of}
use Rattle.migration_report.specs.declared.decision.Decision.{Decision}
use Rattle.migration_report.specs.declared.outcome.Outcome.{Outcome}
use Rattle.migration_report.specs.declared.status.Status.TheVariants.{Done, ReadFault}
use Rattle.migrate_cli.specs.Answers.{IsAnswer}
use Rattle.migrate_cli.specs.Calls.{Call, Course}
use Rattle.migrate_cli.specs.CommandFiles.{design_of}
use Rattle.migrate_cli.specs.Completeness.{Writes}
use Rattle.migrate_cli.specs.DesignDecision.{IsDesignDecision}
use Rattle.migrate_cli.specs.DesignDecision.IsDesignDecision.{designed}
use Rattle.migrate_cli.specs.DesignPromise.{AcceptsDesign, HasDesigned}
use Rattle.migrate_cli.proofs.CompletenessLaws.{ends_decided}
use Rattle.migrate_cli.proofs.DecidedLaws.{HasDecided, answer_decided, done_no_refusal}
use Rattle.migrate_cli.proofs.DesignLaws.{design_is_written}

module _ (call : Call) (scheme : AskedScheme) (configs : List (List ℕ)) (outside : Course) (asks : Asks call.words (design_of scheme configs)) where
  by_decision : {outcome : Outcome} (it : HasDecided call (design_of scheme configs) outcome) (d : Decision) → IsDesignDecision scheme it.net d →
      AddsBytes outside.before.written outside.after.written (decision_text it.net d) → HasDesigned call scheme configs outside
  by_decision it d (designed text is) adds = record {
    texts = it.texts;
    read = it.read;
    within = it.within;
    net = it.net;
    gives = it.gives.0;
    written = text;
    adds = adds;
    is_design = is;
  }

  pub has_designed : {asked : List (List ℕ)} {outcome : Outcome} → IsAnswer call asked outcome →
      AddsBytes outside.before.written outside.after.written (outcome_text outcome) → status_of outcome ≡ Done → HasDesigned call scheme configs outside
  has_designed is adds done =
      let it = answer_decided (λ status. status ≡ Done) done_no_refusal call (design_of scheme configs) tt asks is done in
      by_decision it it.decision it.is
      (subst (λ (o : Outcome). AddsBytes outside.before.written outside.after.written (outcome_text o)) it.outcome_is adds)

pub design_writes : (call : Call) → AcceptsDesign call → (asked : List (List ℕ)) (outcome : Outcome) → status_of outcome ≢ ReadFault →
    IsAnswer call asked outcome → Writes (status_of outcome)
design_writes call it =
    ends_decided call (design_of it.scheme it.configs) it.texts it.net [] it.accepted Writes (λ decision is. design_is_written is)
