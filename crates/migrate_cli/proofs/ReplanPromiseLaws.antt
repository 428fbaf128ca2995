-- What a call of `replan` promises.
use Rattle.std.proofs.Common.{arith}
use Rattle.std.proofs.lemmas.Grind.{common_steps}
use Rattle.std.proofs.Common.{◌≢◌, [], ℕ, List, subst, sym}
use Rattle.igp_theory.specs.Migrations.{ospf_to_isis}
use Rattle.igp_theory.proofs.Delivery.{isis_hop_is_router, ospf_hop_is_router}
use Rattle.net_model.specs.Refusals.{IsNetwork, NamesAscend}
use Rattle.plan_theory.specs.declared.planned.Planned.{Planned}
use Rattle.plan_theory.specs.Plans.{IsPlanned}
use Rattle.step_scripts.specs.WaveFiles.{NamesWaves}
use Rattle.step_scripts.specs.declared.version.Version.{Version}
use Rattle.step_scripts.proofs.WaveFileLaws.{no_fault}
use Rattle.store_edge.specs.Sink.{AddsBytes}
use Rattle.migrate_words.specs.Asked.{Asks}
use Rattle.migrate_words.specs.declared.command.Command.{Command}
use Rattle.migration_report.specs.Outcomes.{decision_status, decision_text, plan_status, status_of, outcome_text}
use Rattle.migration_report.specs.RestPlanTexts.{rest_plan_text}
use Rattle.migration_report.specs.declared.decision.Decision.{Decision}
use Rattle.migration_report.specs.declared.outcome.Outcome.{Outcome}
use Rattle.migration_report.specs.declared.status.Status.TheVariants.{ReadFault}
use Rattle.net_model.specs.RouterNames.{names_of}
use Rattle.migrate_cli.specs.Answers.{IsAnswer}
use Rattle.migrate_cli.specs.Calls.{Call, Course}
use Rattle.migrate_cli.specs.JournalPromise.{AcceptsJournal, HasJournal}
use Rattle.migrate_cli.specs.PlanPromise.{IsOfPlan}
use Rattle.migrate_cli.specs.Reading.{NamedText}
use Rattle.migrate_cli.specs.ReplanDecision.{IsReplanDecision, IsRestPlanned, phases_made, stopped_at}
use Rattle.migrate_cli.specs.ReplanDecision.IsReplanDecision.{faulty_waves, of_waves}
use Rattle.migrate_cli.specs.ReplanDecision.IsRestPlanned.{departs, plans_rest}
use Rattle.migrate_cli.specs.ReplanPromise.{HasReplanned, Replans, replan_of}
use Rattle.migrate_cli.specs.ReplanPromise.Replans.{replanned}
use Rattle.migrate_cli.specs.ReplanPromise.WritesRest.{plans_rest as has_planned_rest, tells_departure}
use Rattle.migrate_cli.specs.ReplayDecision.{Journal, journal_of}
use Rattle.migrate_cli.specs.RestHeadline.{RestHeadline}
use Rattle.migrate_cli.proofs.CompletenessLaws.{ends_decided}
use Rattle.migrate_cli.proofs.DecidedLaws.{HasDecided, answer_decided}
use Rattle.migrate_cli.proofs.JournalPromiseLaws.{order_and_journal, two_texts}
use Rattle.migrate_cli.proofs.PlanPromiseLaws.{plan_no_refusal}
use Rattle.migrate_cli.proofs.ReplanLaws.{phases_each}
use Rattle.migrate_cli.proofs.RestHeadlineLaws.{rest_headline}
use Rattle.state_replay.specs.Journals.{HasReached, progress}

-- what is planned from where a journal stands means what the headline of the rest says
rest_means : (journal : Journal) (ranks done : List ℕ) (made budget : ℕ) (planned : Planned) →
    HasReached (progress journal.net ranks done) journal.text made → IsNetwork journal.net →
    IsPlanned (stopped_at done (ospf_to_isis journal.net)) budget planned →
    RestHeadline (ospf_to_isis journal.net) (phases_made done) budget (plan_status planned)
    (rest_plan_text (names_of journal.net) (phases_made done) planned)
rest_means journal ranks done made budget planned at network is =
    rest_headline (ospf_to_isis journal.net) (phases_made done) (phases_each journal ranks done made at)
    (λ u h q e below entry leads. ospf_hop_is_router journal.net u h q e entry leads)
    (λ u h q e below entry leads. isis_hop_is_router journal.net u h q e entry leads) budget network planned is

module _ (call : Call) (budget : ℕ) (file journal_file : List ℕ) (configs : List (List ℕ)) (outside : Course)
    (asks : Asks call.words (replan_of budget file journal_file configs)) where
  abbrev command : Command
  command = replan_of budget file journal_file configs

  abbrev has_journal : {outcome : Outcome} (it : HasDecided call command outcome) (version : Version) (ranks : List ℕ) →
      NamesWaves it.net it.is.0.text version ranks → HasJournal call command
  has_journal it version ranks names = record {
    texts = it.texts;
    read = it.read;
    within = it.within;
    net = it.net;
    gives = it.gives.0;
    start = it.start tt;
    order = it.is.0.text;
    journal = it.is.1.text;
    own = two_texts file journal_file it.texts it.is.0 it.is.1 it.is.2;
    version = version;
    ranks = ranks;
    names = names;
  }

  by_decision : {outcome : Outcome} (it : HasDecided call command outcome) (d : Decision) →
      IsReplanDecision it.is.0 (journal_of it.is.1.text it.net) budget d →
      AddsBytes outside.before.written outside.after.written (decision_text it.net d) → IsOfPlan (decision_status d) →
      HasReplanned call command outside (decision_status d)
  by_decision it d (faulty_waves _ _ _) writes of = absurd of
  by_decision it d (of_waves version ranks _ names (plans_rest made done planned at _ network is)) writes of =
      let journal : Journal = journal_of it.is.1.text it.net in
      record {
        it = has_journal it version ranks names;
        writes = has_planned_rest (record {
          made = made;
          done = done;
          reached = at;
          text = rest_plan_text (names_of it.net) (phases_made done) planned;
          written = writes;
          means = rest_means journal ranks done made budget planned at network is;
        });
      }
  by_decision it d (of_waves version ranks _ names (departs line done is)) writes of = record {
    it = has_journal it version ranks names;
    writes = tells_departure (record { line = line; done = done; departs = is; written = writes });
  }

  pub has_replanned : {asked : List (List ℕ)} {outcome : Outcome} → IsAnswer call asked outcome →
      AddsBytes outside.before.written outside.after.written (outcome_text outcome) → IsOfPlan (status_of outcome) →
      HasReplanned call command outside (status_of outcome)
  has_replanned is adds of =
      let it = answer_decided IsOfPlan plan_no_refusal call command tt asks is of in
      subst (λ (o : Outcome). HasReplanned call command outside (status_of o)) (sym it.outcome_is)
      (by_decision it it.decision it.is.3
      (subst (λ (o : Outcome). AddsBytes outside.before.written outside.after.written (outcome_text o)) it.outcome_is adds)
      (subst (λ (o : Outcome). IsOfPlan (status_of o)) it.outcome_is of))

-- ---- it decides ----

plan_ends : (planned : Planned) → IsOfPlan (plan_status planned)
plan_ends planned = grind (arith, common_steps)

rest_ends : {journal : Journal} {ranks : List ℕ} {budget : ℕ} {d : Decision} → IsRestPlanned (ospf_to_isis journal.net) journal ranks budget d →
    Replans (decision_status d)
rest_ends (plans_rest _ _ planned _ _ _ _) = replanned (plan_ends planned)
rest_ends (departs _ _ _) = replanned tt

replan_of_waves : {order : NamedText} {journal : Journal} {budget : ℕ} {d : Decision} {version : Version} {ranks : List ℕ} →
    NamesAscend journal.net → NamesWaves journal.net order.text version ranks → IsReplanDecision order journal budget d →
    Replans (decision_status d)
replan_of_waves {order} {journal} {version = version} {ranks = ranks} ascending names (faulty_waves n k least) =
    absurd (no_fault journal.net order.text version ranks n k ascending names least.faulty)
replan_of_waves {journal = journal} {budget = budget} ascending names (of_waves _ ranks _ _ is) =
    rest_ends {journal = journal} {ranks = ranks} {budget = budget} is

pub replan_decides : (call : Call) (budget : ℕ) (file journal_file : List ℕ) (configs : List (List ℕ)) →
    (it : AcceptsJournal call (replan_of budget file journal_file configs)) → (asked : List (List ℕ)) (outcome : Outcome) →
    status_of outcome ≢ ReadFault → IsAnswer call asked outcome → Replans (status_of outcome)
replan_decides call budget file journal_file configs it =
    ends_decided call (replan_of budget file journal_file configs) it.texts it.net [] it.accepted Replans
    (λ decision is. replan_of_waves {order = is.0} {journal = journal_of is.1.text it.net} it.accepted.gives.0.make.network.ascending
    (subst (λ (t : List ℕ). NamesWaves it.net t it.version it.ranks) (order_and_journal file journal_file it.own is.2) it.names) is.3)
