-- What a call of `survey` promises.
use Rattle.std.proofs.Common.{◌≡◌, ◌≢◌, ℕ, List, All, ap, refl, subst, sym}
use Rattle.store_edge.specs.Sink.{AddsBytes}
use Rattle.survey_report.specs.SurveyFiles.{survey_files}
use Rattle.migrate_words.proofs.OneCommand.{one_command}
use Rattle.migrate_words.specs.Asked.{Asks}
use Rattle.migrate_words.specs.declared.command.Command.{Command}
use Rattle.migration_report.specs.Outcomes.{outcome_text, status_of}
use Rattle.migration_report.specs.declared.outcome.Outcome.{Outcome}
use Rattle.migration_report.specs.declared.status.Status.TheVariants.{ReadFault}
use Rattle.migrate_cli.specs.Completeness.{IsYesOrNo}
use Rattle.migrate_cli.specs.Answers.{IsAnswer}
use Rattle.migrate_cli.specs.Answers.IsAnswer.{refused_words, many_files, read_fault, long_file, long_files, judged}
use Rattle.migrate_cli.specs.Calls.{Call, Course}
use Rattle.migrate_cli.specs.CommandFiles.{config_texts, files_of, given_texts, own_texts}
use Rattle.migrate_cli.specs.Outcomes.{IsOutcome}
use Rattle.migrate_cli.specs.Reading.{AreRead, AreWithin}
use Rattle.migrate_cli.specs.SurveyPromise.{AcceptsSurvey, DecidesSurvey, HasSurvey, survey_of}
use Rattle.migrate_cli.specs.SurveyPromise.DecidesSurvey.{as_surveyed}
use Rattle.migrate_cli.proofs.CallLaws.{OfFiles, OfWords, few_or_many, question, refused_or_asks, steps_of, stop_or_all}
use Rattle.migrate_cli.proofs.CallLaws.OfFiles.{above, stopped, all_read}
use Rattle.migrate_cli.proofs.CallLaws.OfWords.{refused, asks}
use Rattle.migrate_cli.proofs.OutcomeLaws.{IsSurveyOutcome, survey_alone}
use Rattle.migrate_cli.proofs.SurveyFirsts.{first_fault_told}
use Rattle.migrate_cli.proofs.StopLaws.{IsToldOf, one_list, told_files, told_with}

-- ---- a call that ended with yes or with no has surveyed ----

module _ (call : Call) (configs : List (List ℕ)) (outside : Course) (ask : Asks call.words (survey_of configs)) where
  written : (texts : List (List ℕ)) {outcome : Outcome} → AreRead call.content (files_of (survey_of configs)) texts →
      AreWithin (files_of (survey_of configs)) texts → IsSurveyOutcome (survey_files configs texts) outcome →
      AddsBytes outside.before.written outside.after.written (outcome_text outcome) → HasSurvey call configs outside (status_of outcome)
  written texts read within of adds = record {
    texts = texts;
    read = read;
    within = within;
    survey = of.survey;
    exact = of.is;
    adds = subst (λ (o : Outcome). AddsBytes outside.before.written outside.after.written (outcome_text o)) of.outcome_is adds;
    status_is = ap status_of of.outcome_is;
    first = first_fault_told configs texts of.survey of.is;
  }

  pub has_survey : {asked : List (List ℕ)} {outcome : Outcome} → IsAnswer call asked outcome →
      AddsBytes outside.before.written outside.after.written (outcome_text outcome) → IsYesOrNo (status_of outcome) →
      HasSurvey call configs outside (status_of outcome)
  has_survey (refused_words _ _) adds of = absurd of
  has_survey (many_files _ _ _) adds of = absurd of
  has_survey (read_fault _ _ _ _ _ _) adds of = absurd of
  has_survey (long_file _ _ _ _ _ _ _) adds of = absurd of
  has_survey (long_files _ _ _ _ _ _ _ _) adds of = absurd of
  has_survey (judged other texts outcome few read within is) adds of =
      let command = survey_of configs in
      let same : other ≡ command = one_command call.words other command few.asked ask in
      let judges : IsOutcome command (given_texts (own_texts command texts) (config_texts command texts)) outcome =
      subst (λ (r : Command). IsOutcome r (given_texts (own_texts r texts) (config_texts r texts)) outcome) same is in
      written texts (subst (λ (r : Command). AreRead call.content (files_of r) texts) same read)
      (subst (λ (r : Command). AreWithin (files_of r) texts) same within)
      (survey_alone command (given_texts (own_texts command texts) (config_texts command texts)) refl judges) adds

-- ---- and so it ends, whatever the texts are ----

module _ (call : Call) (it : AcceptsSurvey call) where
  abbrev command : Command
  command = survey_of it.configs

  files_surveyed : {asked : List (List ℕ)} {outcome : Outcome} → OfFiles (question call.content command) asked outcome →
      IsSurveyOutcome (survey_files it.configs it.texts) outcome
  files_surveyed (above many) = absurd (few_or_many call.content command many it.asked.few)
  files_surveyed (stopped before file read text _ _ stop _) =
      let tell = told_files call.content (files_of command) it.told in
      absurd (stop_or_all call.content command before file read text it.texts
      (told_with call.content before file stop.after (subst (All (IsToldOf call.content)) stop.files_are tell)) stop it.read it.within)
  files_surveyed {outcome = outcome} (all_read some _ read _ is) =
      let same = one_list call.content (files_of command) some it.texts (told_files call.content (files_of command) it.told) read it.read in
      survey_alone command (given_texts (own_texts command it.texts) (config_texts command it.texts)) refl
      (subst (λ list. IsOutcome command (given_texts (own_texts command list) (config_texts command list)) outcome) same is)

  words_surveyed : {asked : List (List ℕ)} {outcome : Outcome} → OfWords call asked outcome →
      IsSurveyOutcome (survey_files it.configs it.texts) outcome
  words_surveyed (refused detail are) = absurd (refused_or_asks call.words detail command are it.asked.asked)
  words_surveyed {asked} {outcome} (asks some ask files) =
      let same = one_command call.words some command ask it.asked.asked in
      files_surveyed (subst (λ other. OfFiles (question call.content other) asked outcome) same files)

  pub survey_decides : (asked : List (List ℕ)) (outcome : Outcome) → status_of outcome ≢ ReadFault → IsAnswer call asked outcome →
      DecidesSurvey it.configs it.texts (status_of outcome)
  survey_decides asked outcome no_fault is =
      let of = words_surveyed (steps_of no_fault is) in
      subst (λ (o : Outcome). DecidesSurvey it.configs it.texts (status_of o)) (sym of.outcome_is) (as_surveyed of.survey of.is)
