-- A call that ended as no refusal ends has decided.
use Rattle.std.proofs.Common.{◌≡◌, ℕ, List, ◌∷◌, refl, subst}
use Rattle.net_model.specs.Network.{Network}
use Rattle.net_model.specs.declared.refusal.NetRefusal.{NetRefusal}
use Rattle.net_model.specs.declared.refusal.NetRefusal.TheVariants.{Limit as TooMany}
use Rattle.migrate_words.proofs.OneCommand.{one_command}
use Rattle.migrate_words.specs.Asked.{Asks}
use Rattle.migrate_words.specs.declared.command.Command.{Command}
use Rattle.migration_report.specs.Outcomes.{network_status, status_of}
use Rattle.migration_report.specs.declared.decision.Decision.{Decision}
use Rattle.migration_report.specs.declared.outcome.Outcome.{Outcome}
use Rattle.migration_report.specs.declared.outcome.Outcome.TheVariants.{Decided}
use Rattle.migration_report.specs.declared.status.Status.{Status}
use Rattle.migration_report.specs.declared.status.Status.TheVariants as status
use Rattle.migrate_cli.specs.Answers.{IsAnswer}
use Rattle.migrate_cli.specs.Answers.IsAnswer.{refused_words, many_files, read_fault, long_file, long_files, judged}
use Rattle.migrate_cli.specs.Calls.{Call}
use Rattle.migrate_cli.specs.CommandFiles.{AsksNetworks, NeedsStart, config_texts, files_of, given_texts, groups_of, own_texts}
use Rattle.migrate_cli.specs.Configurations.{GiveNetworks, IsAtStart}
use Rattle.migrate_cli.specs.Decisions.{IsDecision, input_of}
use Rattle.migrate_cli.specs.Outcomes.{IsOutcome}
use Rattle.migrate_cli.specs.Outcomes.IsOutcome.{faulty_configuration, no_network, off_start, decided, surveyed, observed}
use Rattle.migrate_cli.specs.Reading.{AreRead, AreWithin}

-- the command has decided on files that were read within the limits
pub record HasDecided (call : Call) (command : Command) (outcome : Outcome) : Type 0 where
  pub texts : List (List ℕ)
  pub read : AreRead call.content (files_of command) texts
  pub within : AreWithin (files_of command) texts
  pub net : Network
  pub others : List Network
  pub gives : GiveNetworks (groups_of command.kind (config_texts command texts)) (net ∷ others)
  pub start : NeedsStart command.kind → IsAtStart net
  pub decision : Decision
  pub outcome_is : outcome ≡ Decided net decision
  pub is : IsDecision command.kind (input_of command (given_texts (own_texts command texts) (config_texts command texts)) net others) decision

-- a status is none of a refusal
pub record IsNoRefusal (Q : Status → Type 0) : Type 0 where
  pub words : Q status.Words → ⊥
  pub read : Q status.ReadFault → ⊥
  pub limit : Q status.Limit → ⊥
  pub refused : Q status.Refused → ⊥

-- so is one that does what was asked for
pub done_no_refusal : IsNoRefusal (λ s. s ≡ status.Done)
done_no_refusal = record { words = λ e. Prim.cc e; read = λ e. Prim.cc e; limit = λ e. Prim.cc e; refused = λ e. Prim.cc e }

module _ (Q : Status → Type 0) (none : IsNoRefusal Q) (call : Call) (command : Command) (networks : AsksNetworks command.kind)
    (asks : Asks call.words command) where
  network_refused : (refusal : NetRefusal) → Q (network_status refusal) → ⊥
  network_refused (TooMany _ _) is = none.limit is
  network_refused _ is = none.refused is

  outcome_decided : (texts : List (List ℕ)) {outcome : Outcome} → AreRead call.content (files_of command) texts → AreWithin (files_of command) texts →
      IsOutcome command (given_texts (own_texts command texts) (config_texts command texts)) outcome → Q (status_of outcome) →
      HasDecided call command outcome
  outcome_decided texts read within (faulty_configuration _ _ _ _ _) q = absurd (none.refused q)
  outcome_decided texts read within (no_network _ refusal _ _ _) q = absurd (network_refused refusal q)
  outcome_decided texts read within (off_start _ _ _ _ _ _ _ _) q = absurd (none.refused q)
  outcome_decided texts read within (decided net others decision gives start is) q = record {
    texts = texts;
    read = read;
    within = within;
    net = net;
    others = others;
    gives = gives;
    start = start;
    decision = decision;
    outcome_is = refl;
    is = is;
  }
  outcome_decided texts read within (surveyed _ kind _) q = absurd (subst AsksNetworks kind networks)
  outcome_decided texts read within (observed _ _ _ kind _ _) q = absurd (subst AsksNetworks kind networks)

  pub answer_decided : {asked : List (List ℕ)} {outcome : Outcome} → IsAnswer call asked outcome → Q (status_of outcome) →
      HasDecided call command outcome
  answer_decided (refused_words _ _) q = absurd (none.words q)
  answer_decided (many_files _ _ _) q = absurd (none.limit q)
  answer_decided (read_fault _ _ _ _ _ _) q = absurd (none.read q)
  answer_decided (long_file _ _ _ _ _ _ _) q = absurd (none.limit q)
  answer_decided (long_files _ _ _ _ _ _ _ _) q = absurd (none.limit q)
  answer_decided (judged other texts outcome ask read within is) q =
      let same : other ≡ command = one_command call.words other command ask.asked asks in
      outcome_decided texts (subst (λ (r : Command). AreRead call.content (files_of r) texts) same read)
      (subst (λ (r : Command). AreWithin (files_of r) texts) same within)
      (subst (λ (r : Command). IsOutcome r (given_texts (own_texts r texts) (config_texts r texts)) outcome) same is) q
