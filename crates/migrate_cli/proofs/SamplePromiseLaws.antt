-- What a call of `sample` promises.
use Rattle.std.proofs.Common.{◌≡◌, ◌∙◌, ◌++◌, ◌∷◌, [], ℕ, List, ap, append-nil, arith, length, refl, subst, sym}
use Rattle.std.proofs.lemmas.List.{length-append}
use Rattle.igp_theory.specs.Migrations.{ospf_to_isis}
use Rattle.net_model.specs.Network.{Network}
use Rattle.sample_network.specs.SampleTexts.{sample_text}
use Rattle.order_search.specs.declared.found.Found.TheVariants.{Waves}
use Rattle.plan_theory.specs.declared.planned.Planned.TheVariants.{Searched}
use Rattle.migrate_words.specs.Asked.{Asks}
use Rattle.migrate_words.specs.declared.command.Command.{Command}
use Rattle.migrate_words.specs.declared.command.CommandKind.TheVariants.{Sample}
use Rattle.migrate_words.specs.declared.command.TheConstants.{USUAL_BUDGET}
use Rattle.migrate_words.proofs.OneCommand.{one_command}
use Rattle.migration_report.specs.Outcomes.{decision_status, status_of}
use Rattle.migration_report.specs.declared.decision.Decision.{Decision}
use Rattle.migration_report.specs.declared.decision.Decision.TheVariants.{Plan}
use Rattle.migration_report.specs.declared.outcome.Outcome.{Outcome}
use Rattle.migration_report.specs.declared.outcome.Outcome.TheVariants.{Decided}
use Rattle.migration_report.specs.declared.status.Status.{Status}
use Rattle.migrate_cli.specs.Answers.{Answers, Ends, IsAnswer, MayAsk}
use Rattle.migrate_cli.specs.Answers.Ends.{whole, cut, no_memory}
use Rattle.migrate_cli.specs.Answers.IsAnswer.{refused_words, many_files, read_fault, long_file, long_files, judged}
use Rattle.migrate_cli.specs.Answers.MayAsk.{asks_none, asks_some}
use Rattle.migrate_cli.specs.Calls.{Call, Outside, course}
use Rattle.migrate_cli.specs.CommandFiles.{command_of, config_texts, files_of, own_texts, given_texts}
use Rattle.migrate_cli.specs.Outcomes.{IsOutcome}
use Rattle.migrate_cli.specs.Outcomes.IsOutcome.{faulty_configuration, no_network, off_start, decided, surveyed, observed}
use Rattle.migrate_cli.specs.PlanDecision.{IsPlanDecision}
use Rattle.migrate_cli.specs.PlanDecision.IsPlanOver.{plans}
use Rattle.migrate_cli.specs.PlanPromise.{PlansOrNot}
use Rattle.migrate_cli.specs.PlanPromise.PlansOrNot.{planned as ends_planned}
use Rattle.migrate_cli.specs.Reading.{Contents, File, ReadUpTo, file_names, to_read}
use Rattle.migrate_cli.specs.SampleDecision.{IsSampleDecision}
use Rattle.migrate_cli.specs.SampleDecision.IsSampleDecision.{summed_up, as_planned}
use Rattle.migrate_cli.specs.SamplePromise.{AcceptsSample, HasSampled, IsAsPlanned, IsOutcomeOfSample}
use Rattle.migrate_cli.specs.SamplePromise.EndsSample.{whole as whole_outcome, cut as cut_outcome, no_memory as none_written}
use Rattle.migrate_cli.proofs.CallLaws.{refused_or_asks}
use Rattle.migrate_cli.proofs.CompletenessLaws.{judged_alone}
use Rattle.migrate_cli.proofs.PlanPromiseLaws.{decision_means}

-- ---- the answer is what the text comes to ----

-- no file was asked for, and this is what the text comes to
pub record IsSampled (routers : ℕ) (asked : List (List ℕ)) (outcome : Outcome) : Type 0 where
  pub none : asked ≡ []
  pub is : IsOutcomeOfSample routers outcome

-- where no file is read the reading stops at none
stops_at_none : (content : Contents) (files : List File) (asked texts : List (List ℕ)) (file : File) → files ≡ [] →
    ReadUpTo (to_read content files) asked texts file → ⊥
stops_at_none content files asked texts file none up =
    let some = ap length up.files_are in
    let zero = ap length none in
    let more = length-append up.before (file ∷ up.after) in
    omega (arith, some, zero, more)

module _ (call : Call) (routers : ℕ) (asks : Asks call.words (command_of Sample [] [] routers)) where
  one_sample : (command : Command) → Asks call.words command → command ≡ command_of Sample [] [] routers
  one_sample command ask = one_command call.words command (command_of Sample [] [] routers) ask asks

  no_files : (command : Command) → Asks call.words command → files_of command ≡ []
  no_files command ask = ap files_of (one_sample command ask)

  pub sampled : {asked : List (List ℕ)} {outcome : Outcome} → IsAnswer call asked outcome → IsSampled routers asked outcome
  sampled (refused_words detail are) = absurd (refused_or_asks call.words detail (command_of Sample [] [] routers) are asks)
  sampled (many_files command ask many) =
      let none : length command.configs ≡ 0 = ap (λ (r : Command). length r.configs) (one_sample command ask) in
      absurd (omega (arith, many, none))
  sampled (read_fault command asked texts file ask up) =
      absurd (stops_at_none call.content (files_of command) asked texts file (no_files command ask.asked) up)
  sampled (long_file command asked texts file ask up _) =
      absurd (stops_at_none call.content (files_of command) asked texts file (no_files command ask.asked) up)
  sampled (long_files command asked texts file _ ask up _) =
      absurd (stops_at_none call.content (files_of command) asked texts file (no_files command ask.asked) up)
  sampled (judged command texts outcome ask _ _ is) = record {
    none = ap file_names (no_files command ask.asked);
    is = subst (λ (r : Command). IsOutcome r (given_texts (own_texts r texts) (config_texts r texts)) outcome) (one_sample command ask.asked) is;
  }

  -- nor is one asked for where memory ran out
  asked_none : {asked : List (List ℕ)} → MayAsk call asked → asked ≡ []
  asked_none asks_none = refl
  asked_none (asks_some command asked texts file ask up) =
      absurd (stops_at_none call.content (files_of command) asked texts file (no_files command ask.asked) up)

-- ---- which is that of `plan` ----

is_as_planned : (routers : ℕ) {outcome : Outcome} → IsOutcomeOfSample routers outcome → IsAsPlanned routers outcome
is_as_planned routers (faulty_configuration file number kind asks first) =
    record { planned = _; plans = faulty_configuration file number kind tt first; same_status = refl; same = λ _. refl }
is_as_planned routers (surveyed _ kind _) = absurd (Prim.cc kind)
is_as_planned routers (observed _ _ _ kind _ _) = absurd (Prim.cc kind)
is_as_planned routers (no_network all refusal reads refuses told) =
    record { planned = _; plans = no_network all refusal reads refuses told; same_status = refl; same = λ _. refl }
is_as_planned routers (off_start net others router config gives needs lowest has) =
    record { planned = _; plans = off_start net others router config gives needs lowest has; same_status = refl; same = λ _. refl }
is_as_planned routers (decided net others decision gives start is) = by_decision decision is
  where
    by_decision : (d : Decision) → IsSampleDecision routers net d → IsAsPlanned routers (Decided net d)
    by_decision d (summed_up ranks pairs chain trail _ some network found _) = record {
      planned = Decided net (Plan (Searched (Waves ranks pairs chain trail)));
      plans = decided net others _ gives start (plans _ some network found);
      same_status = refl;
      same = λ not_done. absurd (not_done refl);
    }
    by_decision d (as_planned planned _ some network found) = record {
      planned = Decided net (Plan planned);
      plans = decided net others _ gives start (plans planned some network found);
      same_status = refl;
      same = λ _. refl;
    }

-- ---- so a call promises it ----

module _ (call : Call) (before after : Outside) (routers : ℕ) (asks : Asks call.words (command_of Sample [] [] routers)) where
  none_more : {asked : List (List ℕ)} → after.reads.asked ≡ before.reads.asked ++ asked → asked ≡ [] → after.reads.asked ≡ before.reads.asked
  none_more is none = is ∙ ap (λ (some : List (List ℕ)). before.reads.asked ++ some) none ∙ append-nil before.reads.asked

  has_sampled : {asked : List (List ℕ)} {status : Status} → after.reads.asked ≡ before.reads.asked ++ asked → Ends call asked (course before after) status →
      HasSampled routers before after status
  has_sampled is (whole outcome answer faults adds) =
      let of = sampled call routers asks answer in
      record { asked = none_more is of.none; ends = whole_outcome outcome of.is (is_as_planned routers of.is) adds }
  has_sampled is (cut outcome answer faults adds) =
      let of = sampled call routers asks answer in
      record { asked = none_more is of.none; ends = cut_outcome outcome of.is (is_as_planned routers of.is) adds }
  has_sampled is (no_memory may _ nothing) =
      record { asked = none_more is (asked_none call routers asks may); ends = none_written nothing }

pub sample_means : (call : Call) (before after : Outside) (status : Status) → Answers call before after status → (routers : ℕ) →
    Asks call.words (command_of Sample [] [] routers) → HasSampled routers before after status
sample_means call before after status answers routers asks = has_sampled call before after routers asks answers.asked_is answers.ends

-- ---- where nothing is refused, it is planned ----

sample_plans : {routers : ℕ} {net : Network} {d : Decision} → IsSampleDecision routers net d → PlansOrNot (ospf_to_isis net) (decision_status d)
sample_plans {net = net} (summed_up ranks pairs chain trail _ some network found _) =
    let is : IsPlanDecision USUAL_BUDGET net (Plan (Searched (Waves ranks pairs chain trail))) = plans _ some network found in
    ends_planned (decision_means is).ends
sample_plans {net = net} (as_planned planned _ some network found) =
    let is : IsPlanDecision USUAL_BUDGET net (Plan planned) = plans planned some network found in
    ends_planned (decision_means is).ends

pub sample_decides : (call : Call) → (it : AcceptsSample call) → (asked : List (List ℕ)) (outcome : Outcome) → IsAnswer call asked outcome →
    PlansOrNot (ospf_to_isis it.net) (status_of outcome)
sample_decides call it asked outcome answer =
    let of = sampled call it.routers it.asks answer in
    let made = judged_alone (command_of Sample [] [] it.routers) [] (sample_text it.routers ∷ []) it.net [] (it.gives, tt) (λ _. it.start) of.is in
    subst (λ (o : Outcome). PlansOrNot (ospf_to_isis it.net) (status_of o)) (sym made.outcome_is) (sample_plans made.is)
