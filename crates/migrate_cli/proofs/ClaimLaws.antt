-- A call that ended so keeps its promises.
use Rattle.std.proofs.Common.{◌≡◌, ◌≢◌, ℕ, List, arith, refl, subst, sym}
use Rattle.igp_theory.specs.Migrations.{ospf_to_isis}
use Rattle.ospf_pair.specs.PairMigrations.{ospf_to_ospf}
use Rattle.store_edge.specs.Faults.{Rose}
use Rattle.store_edge.specs.Sink.{AddsBytes}
use Rattle.migration_report.specs.Outcomes.{outcome_text, status_of}
use Rattle.migration_report.specs.declared.outcome.Outcome.{Outcome}
use Rattle.migration_report.specs.declared.status.Status.{Status}
use Rattle.migration_report.specs.declared.status.Status.TheVariants.{Done, ReadFault, WriteFault, Memory}
use Rattle.migrate_cli.specs.AnswerLaws.{EndsByAnswer}
use Rattle.migrate_cli.specs.AnswerLaws.MayEnd.{by_memory, by_write_fault}
use Rattle.migrate_cli.specs.Answers.{Answers, Ends, IsAnswer, ReadsAgree}
use Rattle.migrate_cli.specs.Answers.Ends.{whole, cut, no_memory}
use Rattle.migrate_cli.specs.Calls.{Call, Outside, course}
use Rattle.migrate_cli.specs.ChangesPromise.{DecidesChanges, DecidesRefutation}
use Rattle.migrate_cli.specs.ChangesPromise.DecidesChanges.{no_memory as none_for_changes}
use Rattle.migrate_cli.specs.ChangesPromise.DecidesRefutation.{unjudged}
use Rattle.migrate_cli.specs.Claim.{Claim}
use Rattle.migrate_cli.specs.Completeness.{Decides, DecidesTree, IsYesOrNo, NoFaultRose, Writes}
use Rattle.migrate_cli.specs.Completeness.Decides.{memory}
use Rattle.migrate_cli.specs.Completeness.DecidesTree.{no_memory as none_for_tree}
use Rattle.migrate_cli.specs.Completeness.Writes.{unwritten}
use Rattle.migrate_cli.specs.DeltaPromise.{HasDelta}
use Rattle.migrate_cli.specs.DesignPromise.{HasDesigned}
use Rattle.migrate_cli.specs.ExplainedPromise.{HasExplained}
use Rattle.migrate_cli.specs.FailuresPromise.{HasFailures}
use Rattle.migrate_cli.specs.ObservePromise.{HasObserved}
use Rattle.migrate_cli.specs.PicturePromise.{HasDrawn}
use Rattle.migrate_cli.specs.PairPromise.{HasPaired}
use Rattle.migrate_cli.specs.PlanPromise.{HasPlanned, IsOfPlan, PlansOrNot}
use Rattle.migrate_cli.specs.PlanPromise.PlansOrNot.{no_memory as none_planned}
use Rattle.migrate_cli.specs.PreparePromise.{HasPrepared}
use Rattle.migrate_cli.specs.Reading.{LastFailed}
use Rattle.migrate_cli.specs.ReplanPromise.{HasReplanned, Replans, replan_of}
use Rattle.migrate_cli.specs.ReplanPromise.Replans.{no_memory as none_replanned}
use Rattle.migrate_cli.specs.RollbackPromise.{HasRolledBack, rollback_of}
use Rattle.migrate_cli.specs.SamplePromise.{AcceptsSample}
use Rattle.migrate_cli.specs.SplitPromise.{DecidesSplit, HasSplit}
use Rattle.migrate_cli.specs.SplitPromise.DecidesSplit.{no_memory as none_for_split}
use Rattle.migrate_cli.specs.SurveyPromise.{DecidesSurvey, HasSurvey}
use Rattle.migrate_cli.specs.SurveyPromise.DecidesSurvey.{no_memory as none_for_survey}
use Rattle.migrate_cli.specs.TablesPromise.{HasTables}
use Rattle.migrate_cli.specs.TwoPassPromise.{HasPlannedChanges}
use Rattle.migrate_cli.proofs.AnswerFacts.{reads_or_not}
use Rattle.migrate_cli.proofs.CallLaws.{ends_so}
use Rattle.migrate_cli.proofs.ChangesPromiseLaws.{change_check_decides, check_decides, refute_decides}
use Rattle.migrate_cli.proofs.CompletenessLaws.{prepare_writes, replay_decides, scripts_write}
use Rattle.migrate_cli.proofs.DeltaPromiseLaws.{delta_writes, new_lines_alone}
use Rattle.migrate_cli.proofs.DesignPromiseLaws.{design_writes, has_designed}
use Rattle.migrate_cli.proofs.ExplainedPromiseLaws.{has_explained, why_decides}
use Rattle.migrate_cli.proofs.FailuresPromiseLaws.{failures_decides, has_failures}
use Rattle.migrate_cli.proofs.ObservePromiseLaws.{has_observed, observe_decides, observe_finds}
use Rattle.migrate_cli.proofs.PicturePromiseLaws.{has_drawn, picture_decides}
use Rattle.migrate_cli.proofs.PairPromiseLaws.{has_paired, pair_check_decides, pair_decides, pair_refute_decides, pair_scripts_write}
use Rattle.migrate_cli.proofs.PlanPromiseLaws.{answer_means, plan_decides}
use Rattle.migrate_cli.proofs.PreparePromiseLaws.{reads_back}
use Rattle.migrate_cli.proofs.ReplanPromiseLaws.{has_replanned, replan_decides}
use Rattle.migrate_cli.proofs.RollbackPromiseLaws.{has_rolled_back, rollback_decides}
use Rattle.migrate_cli.proofs.SamplePromiseLaws.{sample_decides, sample_means}
use Rattle.migrate_cli.proofs.ScriptsPromiseLaws.{typed_forward}
use Rattle.migrate_cli.proofs.SplitPromiseLaws.{has_split, split_is_decided}
use Rattle.migrate_cli.proofs.SurveyPromiseLaws.{has_survey, survey_decides}
use Rattle.migrate_cli.proofs.TablesPromiseLaws.{has_tables, tables_are_written}
use Rattle.migrate_cli.proofs.TwoPassPromiseLaws.{has_planned_changes, two_pass_decides}

module _ (call : Call) (before after : Outside) where
  -- a write fault is one of the sink
  abbrev pub Fails : Status → Type 0
  Fails status = status ≡ WriteFault → Rose before.sink_faults after.sink_faults

  -- it ends by its answer
  exact_so : {asked : List (List ℕ)} {status : Status} → Ends call asked (course before after) status → EndsByAnswer call status
  exact_so {asked} (whole outcome is _ _) = λ p one tell no_fault its. ends_so call p asked one outcome tell no_fault its is (reads_or_not is)
  exact_so (cut _ _ _ _) = λ _ _ _ _ _. by_write_fault
  exact_so (no_memory _ _ _) = λ _ _ _ _ _. by_memory

  -- a read fault is one of the files
  reads_so : {asked : List (List ℕ)} {status : Status} → Ends call asked (course before after) status → status ≡ ReadFault →
      LastFailed before.reads after.reads
  reads_so (whole outcome is agree _) fault = agree.read_fault fault
  reads_so (cut _ _ _ _) fault = absurd (Prim.cc fault)
  reads_so (no_memory _ _ _) fault = absurd (Prim.cc fault)

  -- where no read failed, the outcome is no read fault
  no_fault_of : (outcome : Outcome) → ReadsAgree (status_of outcome) before.reads after.reads → after.reads.faults ≡ before.reads.faults →
      status_of outcome ≢ ReadFault
  no_fault_of outcome agree same fault = let one = (agree.read_fault fault).one in omega (arith, one, same)

  -- where no fault rises, it ends as its answers do or for want of memory
  calm_so : {asked : List (List ℕ)} {status : Status} (D : Status → Type 0) → D Memory →
      ((outcome : Outcome) → status_of outcome ≢ ReadFault → IsAnswer call asked outcome → D (status_of outcome)) →
      Ends call asked (course before after) status → Fails status → NoFaultRose before after → D status
  calm_so D none holds (whole outcome is agree _) fails calm = holds outcome (no_fault_of outcome agree calm.files) is
  calm_so D none holds (cut _ _ _ _) fails calm = absurd (calm.sink (fails refl))
  calm_so D none holds (no_memory _ _ _) fails calm = none

  sample_so : {asked : List (List ℕ)} {status : Status} → (it : AcceptsSample call) → Ends call asked (course before after) status → Fails status →
      (Rose before.sink_faults after.sink_faults → ⊥) → PlansOrNot (ospf_to_isis it.net) status
  sample_so {asked} it (whole outcome is _ _) fails calm = sample_decides call it asked outcome is
  sample_so it (cut _ _ _ _) fails calm = absurd (calm (fails refl))
  sample_so it (no_memory _ _ _) fails calm = none_planned

  -- what its text means holds where its status says that it was written
  wrote_so : {asked : List (List ℕ)} {status : Status} (Q R : Status → Type 0) → (Q WriteFault → ⊥) → (Q Memory → ⊥) →
      ((outcome : Outcome) → IsAnswer call asked outcome → AddsBytes before.written after.written (outcome_text outcome) → Q (status_of outcome) →
      R (status_of outcome)) → Ends call asked (course before after) status → Q status → R status
  wrote_so Q R uncut kept means (whole outcome is _ adds) q = means outcome is adds q
  wrote_so Q R uncut kept means (cut _ _ _ _) q = absurd (uncut q)
  wrote_so Q R uncut kept means (no_memory _ _ _) q = absurd (kept q)

  -- so it keeps all of its promises
  pub claim : (status : Status) → Answers call before after status → Fails status →
      (status ≢ WriteFault → after.sink_faults ≡ before.sink_faults) → Claim call before after status
  claim status answers fails stands =
      let asked = answers.asked in
      let ends = answers.ends in
      record {
        answers = answers;
        exact = exact_so ends;
        read_fault = reads_so ends;
        write_fault = fails;
        unless_write_fault = stands;
        plans = record {
          means = λ budget configs asks. wrote_so IsOfPlan (HasPlanned call budget configs (course before after)) (λ q. q) (λ q. q)
              (λ outcome is adds of. answer_means call budget configs (course before after) asks is adds of) ends;
          decides = λ it calm. calm_so (PlansOrNot (ospf_to_isis it.net)) none_planned (plan_decides call it asked) ends fails calm;
        };
        two_passes = record {
          means = λ budget configs asks. wrote_so IsOfPlan (HasPlannedChanges call budget configs (course before after)) (λ q. q) (λ q. q)
              (λ outcome is adds of. has_planned_changes call budget configs (course before after) asks is adds of) ends;
          decides = λ it calm. calm_so (PlansOrNot (ospf_to_isis it.net)) none_planned (two_pass_decides call it asked) ends fails calm;
        };
        checks = λ it calm. calm_so Decides memory (check_decides call it asked) ends fails calm;
        change_checks = λ it calm. calm_so (DecidesChanges (ospf_to_isis it.net) it.ranks) none_for_changes (change_check_decides call it asked) ends fails
            calm;
        refutes = λ it calm. calm_so (DecidesRefutation it.net it.tree) unjudged (refute_decides call it asked) ends fails calm;
        replays = λ it calm. calm_so Decides memory (replay_decides call it asked) ends fails calm;
        scripts = record {
          writes = λ it calm. calm_so Writes unwritten (scripts_write call it asked) ends fails calm;
          typed = typed_forward call;
        };
        prepares = record {
          reads_back = λ file configs asks. wrote_so (λ s. s ≡ Done) (λ _. HasPrepared call file configs (course before after)) (λ e. Prim.cc e)
              (λ e. Prim.cc e) (λ outcome is adds done. reads_back call file configs (course before after) asks is adds done) ends;
          writes = λ it calm. calm_so Writes unwritten (prepare_writes call it asked) ends fails calm;
        };
        designs = record {
          designs = λ scheme configs asks. wrote_so (λ s. s ≡ Done) (λ _. HasDesigned call scheme configs (course before after)) (λ e. Prim.cc e)
              (λ e. Prim.cc e) (λ outcome is adds done. has_designed call scheme configs (course before after) asks is adds done) ends;
          writes = λ it calm. calm_so Writes unwritten (design_writes call it asked) ends fails calm;
        };
        pairs = record {
          means = λ budget old new asks. wrote_so IsOfPlan (HasPaired call budget old new (course before after)) (λ q. q) (λ q. q)
              (λ outcome is adds of. has_paired call budget old new (course before after) asks is adds of) ends;
          decides = λ it calm. calm_so (PlansOrNot (ospf_to_ospf it.old it.new)) none_planned (pair_decides call it asked) ends fails calm;
        };
        pair_checks = λ it calm. calm_so Decides memory (pair_check_decides call it asked) ends fails calm;
        pair_refutes = λ it calm. calm_so (DecidesTree (ospf_to_ospf it.old it.new) it.tree) none_for_tree (pair_refute_decides call it asked) ends
            fails calm;
        pair_scripts = λ it calm. calm_so Writes unwritten (pair_scripts_write call it asked) ends fails calm;
        samples = record {
          means = sample_means call before after status answers;
          decides = λ it calm. sample_so it ends fails calm;
        };
        splits = record {
          splits = λ most file configs asks. wrote_so (λ s. s ≡ Done) (λ _. HasSplit call most file configs (course before after)) (λ e. Prim.cc e)
              (λ e. Prim.cc e) (λ outcome is adds done. has_split call most file configs (course before after) asks is adds done) ends;
          decides = λ it calm. calm_so (DecidesSplit (ospf_to_isis it.net) it.ranks) none_for_split (split_is_decided call it asked) ends fails calm;
        };
        deltas = record {
          alone = λ file configs asks. wrote_so (λ s. s ≡ Done) (λ _. HasDelta call file configs (course before after)) (λ e. Prim.cc e)
              (λ e. Prim.cc e) (λ outcome is adds done. new_lines_alone call file configs (course before after) asks is adds done) ends;
          writes = λ it calm. calm_so Writes unwritten (delta_writes call it asked) ends fails calm;
        };
        tables = record {
          exact = λ configs asks. wrote_so (λ s. s ≡ Done) (λ _. HasTables call configs (course before after)) (λ e. Prim.cc e) (λ e. Prim.cc e)
              (λ outcome is adds done. has_tables call configs (course before after) asks is adds done) ends;
          writes = λ it calm. calm_so Writes unwritten (tables_are_written call it asked) ends fails calm;
        };
        surveys = record {
          exact = λ configs asks. wrote_so IsYesOrNo (HasSurvey call configs (course before after)) (λ q. q) (λ q. q)
              (λ outcome is adds of. has_survey call configs (course before after) asks is adds of) ends;
          decides = λ it calm. calm_so (DecidesSurvey it.configs it.texts) none_for_survey (survey_decides call it asked) ends fails calm;
        };
        explains = record {
          means = λ file configs asks. wrote_so IsYesOrNo (HasExplained call file configs (course before after)) (λ q. q) (λ q. q)
              (λ outcome is adds of. has_explained call file configs (course before after) asks is adds of) ends;
          decides = λ it calm. calm_so Decides memory (why_decides call it asked) ends fails calm;
        };
        rolls_back = record {
          means = λ file journal_file configs asks.
              wrote_so IsYesOrNo (HasRolledBack call (rollback_of file journal_file configs) (course before after)) (λ q. q) (λ q. q)
              (λ outcome is adds of. has_rolled_back call file journal_file configs (course before after) asks is adds of) ends;
          decides = λ file journal_file configs it calm.
              calm_so Decides memory (rollback_decides call file journal_file configs it asked) ends fails calm;
        };
        replans = record {
          means = λ budget file journal_file configs asks.
              wrote_so IsOfPlan (HasReplanned call (replan_of budget file journal_file configs) (course before after)) (λ q. q) (λ q. q)
              (λ outcome is adds of. has_replanned call budget file journal_file configs (course before after) asks is adds of) ends;
          decides = λ budget file journal_file configs it calm.
              calm_so Replans none_replanned (replan_decides call budget file journal_file configs it asked) ends fails calm;
        };
        observes = record {
          observes = λ file old configs asks. wrote_so (λ s. s ≡ Done) (λ _. HasObserved call file old configs (course before after)) (λ e. Prim.cc e)
              (λ e. Prim.cc e) (λ outcome is adds done. has_observed call file old configs (course before after) asks is adds done) ends;
          decides = λ it calm. calm_so Decides memory (observe_decides call it asked) ends fails calm;
          finds = λ it after calm. calm_so Writes unwritten (observe_finds call it after asked) ends fails calm;
        };
        pictures = record {
          means = λ file configs asks. wrote_so IsYesOrNo (HasDrawn call file configs (course before after)) (λ q. q) (λ q. q)
              (λ outcome is adds of. has_drawn call file configs (course before after) asks is adds of) ends;
          decides = λ it calm. calm_so Decides memory (picture_decides call it asked) ends fails calm;
        };
        failures = record {
          means = λ file configs asks. wrote_so IsYesOrNo (HasFailures call file configs (course before after)) (λ q. q) (λ q. q)
              (λ outcome is adds of. has_failures call file configs (course before after) asks is adds of) ends;
          decides = λ it calm. calm_so Decides memory (failures_decides call it asked) ends fails calm;
        };
      }

  -- so it does where it returns the status of what it wrote
  pub claim_written : (status other : Status) → status ≡ other → Answers call before after other → Fails other →
      (other ≢ WriteFault → after.sink_faults ≡ before.sink_faults) → Claim call before after status
  claim_written status other same answers fails stands = subst (Claim call before after) (sym same) (claim other answers fails stands)
