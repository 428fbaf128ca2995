-- What a call of `rollback` promises.
use Rattle.std.proofs.lemmas.Grind.{common_steps}
use Rattle.std.proofs.Common.{◌≡◌, ◌≢◌, ◌++◌, [], ℕ, List, length, take, ap, arith, subst, sym}
use Rattle.std.proofs.lemmas.Bool.{cases_lt}
use Rattle.std.proofs.lemmas.List.{length-take-le, take-append-le, take_all}
use Rattle.igp_theory.specs.Changes.{Change}
use Rattle.igp_theory.specs.Migrations.{ospf_to_isis}
use Rattle.igp_theory.specs.Phases.{all_old}
use Rattle.igp_theory.specs.States.{IsSound}
use Rattle.igp_theory.specs.Timetables.{state_after}
use Rattle.igp_theory.specs.Waves.{AreSeamlessWaves}
use Rattle.net_model.specs.Network.{Network}
use Rattle.net_model.specs.Refusals.{NamesAscend}
use Rattle.state_replay.specs.Journals.{BeginRun}
use Rattle.step_scripts.specs.WaveFiles.{NamesWaves}
use Rattle.step_scripts.specs.declared.version.Version.{Version}
use Rattle.step_scripts.proofs.WaveFileLaws.{no_fault}
use Rattle.store_edge.specs.Sink.{AddsBytes}
use Rattle.undone_changes.specs.UndoneTexts.{state_kept}
use Rattle.undone_changes.proofs.UndoneFacts.{undone_forward}
use Rattle.migrate_words.specs.Asked.{Asks}
use Rattle.migrate_words.specs.declared.command.Command.{Command}
use Rattle.migration_report.specs.Outcomes.{decision_status, decision_text, status_of, outcome_text}
use Rattle.migration_report.specs.declared.decision.Decision.{Decision}
use Rattle.migration_report.specs.declared.outcome.Outcome.{Outcome}
use Rattle.migration_report.specs.declared.status.Status.TheVariants.{ReadFault}
use Rattle.migrate_cli.specs.Answers.{IsAnswer}
use Rattle.migrate_cli.specs.Calls.{Call, Course}
use Rattle.migrate_cli.specs.CommandFiles.{config_texts}
use Rattle.migrate_cli.specs.Completeness.{Decides, IsYesOrNo}
use Rattle.migrate_cli.specs.Completeness.Decides.{yes, no}
use Rattle.migrate_cli.specs.JournalPromise.{AcceptsJournal, HasJournal}
use Rattle.migrate_cli.specs.Reading.{NamedText}
use Rattle.migrate_cli.specs.ReplayDecision.{Journal, journal_of}
use Rattle.migrate_cli.specs.RollbackDecision.{IsRollbackDecision, IsWayBack}
use Rattle.migrate_cli.specs.RollbackDecision.IsRollbackDecision.{faulty_waves, of_waves}
use Rattle.migrate_cli.specs.RollbackDecision.IsWayBack.{departs, taken_back}
use Rattle.migrate_cli.specs.RollbackPromise.{HasRolledBack, rollback_of}
use Rattle.migrate_cli.specs.RollbackPromise.WritesBack.{takes_back, tells_departure}
use Rattle.migrate_cli.proofs.CompletenessLaws.{ends_decided}
use Rattle.migrate_cli.proofs.DecidedLaws.{HasDecided, answer_decided}
use Rattle.migrate_cli.proofs.ExplainedPromiseLaws.{verdict_no_refusal}
use Rattle.migrate_cli.proofs.JournalPromiseLaws.{order_and_journal, two_texts}
use Rattle.migrate_cli.proofs.RollbackLaws.{reached_tells}

-- ---- the states on the way back ----

-- the first ones of some changes stand in front of a run that they begin
pub kept_front : (changes rest : List Change) (kept : ℕ) → take (length (take kept changes)) (changes ++ rest) ≡ take kept changes
kept_front changes rest kept = grind (arith, common_steps, cases_lt, length-take-le, take-append-le, take_all)

-- so each state on the way back is one of the wave list
back_is_sound : (net : Network) (ranks : List ℕ) (changes : List Change) → BeginRun (length net) ranks changes →
    AreSeamlessWaves (ospf_to_isis net) ranks → (kept : ℕ) → IsSound (ospf_to_isis net) (state_kept changes kept)
back_is_sound net ranks changes begin seamless kept =
    seamless.throughout.sound (state_kept changes kept) (record {
      run = changes ++ begin.rest;
      is_run = begin.is_run;
      k = length (take kept changes);
      after = λ u below. ap (λ (l : List Change). state_after all_old l u) (sym (kept_front changes begin.rest kept));
    })

-- ---- a call ----

module _ (call : Call) (file journal_file : List ℕ) (configs : List (List ℕ)) (outside : Course)
    (asks : Asks call.words (rollback_of file journal_file configs)) where
  abbrev command : Command
  command = rollback_of file journal_file configs

  abbrev has_journal : {outcome : Outcome} (it : HasDecided call command outcome) (version : Version) (ranks : List ℕ) →
      NamesWaves it.net it.is.0.text version ranks → HasJournal call command
  has_journal it version ranks names = record {
    texts = it.texts;
    read = it.read;
    within = it.within;
    net = it.net;
    gives = it.gives.0;
    start = it.start tt;
    order = it.is.0.text;
    journal = it.is.1.text;
    own = two_texts file journal_file it.texts it.is.0 it.is.1 it.is.2;
    version = version;
    ranks = ranks;
    names = names;
  }

  by_way_back : {outcome : Outcome} (it : HasDecided call command outcome) (version : Version) (ranks : List ℕ) →
      NamesWaves it.net it.is.0.text version ranks → (d : Decision) → IsWayBack (journal_of it.is.1.text it.net) ranks d →
      AddsBytes outside.before.written outside.after.written (decision_text it.net d) → HasRolledBack call command outside (decision_status d)
  by_way_back it version ranks names d (taken_back made done at) writes =
      let journal : Journal = journal_of it.is.1.text it.net in
      let gives = it.gives.0 in
      record {
        it = has_journal it version ranks names;
        writes = takes_back (record {
          changes = at.changes;
          tells = reached_tells journal ranks done made at;
          begin = at.replayed.begin;
          written = writes;
          back = λ kept.
              undone_forward (config_texts command it.texts) gives.configs it.net ranks at.changes gives.read gives.make.network (it.start tt)
              at.replayed.begin kept;
          sound = back_is_sound it.net ranks at.changes at.replayed.begin;
        });
      }
  by_way_back it version ranks names d (departs line done is) writes = record {
    it = has_journal it version ranks names;
    writes = tells_departure (record { line = line; done = done; departs = is; written = writes });
  }

  by_decision : {outcome : Outcome} (it : HasDecided call command outcome) (d : Decision) →
      IsRollbackDecision it.is.0 (journal_of it.is.1.text it.net) d →
      AddsBytes outside.before.written outside.after.written (decision_text it.net d) → IsYesOrNo (decision_status d) →
      HasRolledBack call command outside (decision_status d)
  by_decision it d (faulty_waves _ _ _) writes of = absurd of
  by_decision it d (of_waves version ranks _ names is) writes of = by_way_back it version ranks names d is writes

  pub has_rolled_back : {asked : List (List ℕ)} {outcome : Outcome} → IsAnswer call asked outcome →
      AddsBytes outside.before.written outside.after.written (outcome_text outcome) → IsYesOrNo (status_of outcome) →
      HasRolledBack call command outside (status_of outcome)
  has_rolled_back is adds of =
      let it = answer_decided IsYesOrNo verdict_no_refusal call command tt asks is of in
      subst (λ (o : Outcome). HasRolledBack call command outside (status_of o)) (sym it.outcome_is)
      (by_decision it it.decision it.is.3
      (subst (λ (o : Outcome). AddsBytes outside.before.written outside.after.written (outcome_text o)) it.outcome_is adds)
      (subst (λ (o : Outcome). IsYesOrNo (status_of o)) it.outcome_is of))

-- ---- it decides ----

way_back_decides : {journal : Journal} {ranks : List ℕ} {d : Decision} → IsWayBack journal ranks d → Decides (decision_status d)
way_back_decides (taken_back _ _ _) = yes
way_back_decides (departs _ _ _) = no

rollback_of_waves : {order : NamedText} {journal : Journal} {d : Decision} {version : Version} {ranks : List ℕ} → NamesAscend journal.net →
    NamesWaves journal.net order.text version ranks → IsRollbackDecision order journal d → Decides (decision_status d)
rollback_of_waves {order} {journal} {version = version} {ranks = ranks} ascending names (faulty_waves n k least) =
    absurd (no_fault journal.net order.text version ranks n k ascending names least.faulty)
rollback_of_waves ascending names (of_waves _ _ _ _ is) = way_back_decides is

pub rollback_decides : (call : Call) (file journal_file : List ℕ) (configs : List (List ℕ)) →
    (it : AcceptsJournal call (rollback_of file journal_file configs)) → (asked : List (List ℕ)) (outcome : Outcome) →
    status_of outcome ≢ ReadFault → IsAnswer call asked outcome → Decides (status_of outcome)
rollback_decides call file journal_file configs it =
    ends_decided call (rollback_of file journal_file configs) it.texts it.net [] it.accepted Decides
    (λ decision is. rollback_of_waves {order = is.0} {journal = journal_of is.1.text it.net} it.accepted.gives.0.make.network.ascending
    (subst (λ (t : List ℕ). NamesWaves it.net t it.version it.ranks) (order_and_journal file journal_file it.own is.2) it.names) is.3)
