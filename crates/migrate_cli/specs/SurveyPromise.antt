-- What a call of `survey` promises: it writes the one survey of its files, and its status says whether something stands out in them.
use Rattle.std.specs.Prelude.{◌≡◌, ℕ, List, [], ◌∷◌, ◌++◌, All, codes, decimal}
use Rattle.store_edge.specs.Sink.{AddsBytes}
use Rattle.printed_lines.specs.Words.{joined}
use Rattle.ios_reader.specs.declared.kind.ReadKind.{ReadKind}
use Rattle.refused_texts.specs.Kinds.{read_kind_name}
use Rattle.migrate_words.specs.Asked.{Asks}
use Rattle.migrate_words.specs.declared.command.Command.{Command}
use Rattle.migrate_words.specs.declared.command.CommandKind.TheVariants.{Survey}
use Rattle.migration_report.specs.Outcomes.{survey_status}
use Rattle.migration_report.specs.declared.status.Status.{Status}
use Rattle.migration_report.specs.declared.status.Status.TheVariants.{Memory}
use Rattle.survey_report.specs.SurveyFiles.{survey_files}
use Rattle.survey_report.specs.SurveyTexts.{IsSurveyText, SurveyText}
use Rattle.migrate_cli.specs.AnswerLaws.{IsFileTold}
use Rattle.migrate_cli.specs.Answers.{AsksForFew}
use Rattle.migrate_cli.specs.Calls.{Call, Outside, course, Course}
use Rattle.migrate_cli.specs.CommandFiles.{command_of, files_of}
use Rattle.migrate_cli.specs.Completeness.{IsYesOrNo, NoFaultRose}
use Rattle.migrate_cli.specs.Configurations.{IsFirstRefused, line_fault}
use Rattle.migrate_cli.specs.Reading.{AreRead, AreWithin, file_names}

-- `survey` of these files
abbrev pub survey_of : List (List ℕ) → Command
survey_of configs = command_of Survey [] configs 0

-- where another command refuses a faulty line of these files, the text begins with it and its kind
abbrev pub TellsFirstFault : List (List ℕ) → List (List ℕ) → List ℕ → Type 0
TellsFirstFault configs texts text =
    (file : List ℕ) (number : ℕ) (kind : ReadKind) → IsFirstRefused (line_fault number kind) configs texts file →
    (behind : List ℕ) × (text ≡ joined (codes "fault" ∷ file ∷ decimal number ∷ read_kind_name kind ∷ []) ++ behind)

-- `survey` of these files has written what it was asked for: its texts were read within the limits; the bytes written are the
-- survey of the files, and the call ended with no exactly where something stands out in it; and what every other command refuses
-- first is told first
pub record HasSurvey (call : Call) (configs : List (List ℕ)) (outside : Course) (status : Status) : Type 0 where
  pub texts : List (List ℕ)
  pub read : AreRead call.content (files_of (survey_of configs)) texts
  pub within : AreWithin (files_of (survey_of configs)) texts
  pub survey : SurveyText
  pub exact : IsSurveyText (survey_files configs texts) survey
  pub adds : AddsBytes outside.before.written outside.after.written survey.text
  pub status_is : status ≡ survey_status survey.stands_out
  pub first : TellsFirstFault configs texts survey.text

-- `survey` of these files, whose texts are told and within the limits, whatever they are
pub record AcceptsSurvey (call : Call) : Type 0 where
  pub configs : List (List ℕ)
  pub texts : List (List ℕ)
  pub asked : AsksForFew call.words (survey_of configs)
  pub told : All (IsFileTold call.content) (file_names (files_of (survey_of configs)))
  pub read : AreRead call.content (files_of (survey_of configs)) texts
  pub within : AreWithin (files_of (survey_of configs)) texts

-- it ends as the survey of these files says, or for want of memory
pub data DecidesSurvey (configs texts : List (List ℕ)) : Status → Type 0 where
  as_surveyed : (survey : SurveyText) → IsSurveyText (survey_files configs texts) survey →
      DecidesSurvey configs texts (survey_status survey.stands_out)
  no_memory : DecidesSurvey configs texts Memory

-- where a call asks for `survey` and ends with yes or with no, it has done so; and so it ends where its files are told and within
-- the limits and no fault rises: no line and no network is refused
pub record SurveyPromise (call : Call) (before after : Outside) (status : Status) : Type 0 where
  pub exact :
      (configs : List (List ℕ)) → Asks call.words (survey_of configs) → IsYesOrNo status →
      HasSurvey call configs (course before after) status
  pub decides : (it : AcceptsSurvey call) → NoFaultRose before after → DecidesSurvey it.configs it.texts status
