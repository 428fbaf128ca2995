-- What the texts that a command reads come to.
use Rattle.std.specs.Prelude.{◌≡◌, ◌≢◌, ℕ, List, [], ◌∷◌}
use Rattle.ios_reader.specs.declared.kind.ReadKind.{ReadKind}
use Rattle.isis_writer.specs.ReadTexts.{ReadsTexts}
use Rattle.net_model.specs.Configuration.{Configuration}
use Rattle.net_model.specs.Network.{Network, HasConfiguration}
use Rattle.net_model.specs.OffStarts.{IsLowestOffStart}
use Rattle.net_model.specs.declared.refusal.NetRefusal.{NetRefusal}
use Rattle.net_model.specs.declared.refusal.NetRefusal.TheVariants.{OutOfMemory}
use Rattle.survey_report.specs.SurveyFiles.{survey_files}
use Rattle.survey_report.specs.SurveyTexts.{IsSurveyText, SurveyText}
use Rattle.migrate_words.specs.declared.command.Command.{Command}
use Rattle.migrate_words.specs.declared.command.CommandKind.TheVariants.{Observe, Survey as SurveyTexts}
use Rattle.migration_report.specs.declared.decision.Decision.{Decision}
use Rattle.migration_report.specs.declared.outcome.Outcome.{Outcome}
use Rattle.migration_report.specs.declared.outcome.Outcome.TheVariants.{Refused, Decided, Survey}
use Rattle.migration_report.specs.declared.refusal.Refusal.TheVariants.{Config, Network as NoNetwork, OffStart}
use Rattle.migrate_cli.specs.CommandFiles.{AsksNetworks, GivenTexts, NeedsStart, groups_of, text_names}
use Rattle.migrate_cli.specs.Configurations.{IsFirstRefused, GiveNetworks, IsAtStart, RefusesFirst, line_fault}
use Rattle.migrate_cli.specs.Decisions.{IsDecision, input_of}
use Rattle.migrate_cli.specs.ObserveDecision.{IsNightOutcome, config_texts_of, night_texts}
use Rattle.migrate_cli.specs.Reading.{NamedText, named_texts}

-- each case, by the texts of a command's own files and of the configurations: a configuration has a faulty line; or all are read,
-- and a group of them, the first, makes no network; or a router of the first network isn't where a migration starts; or the
-- command decides. `survey` tells of the texts, whatever they are, and `observe` reads the configurations of before first
pub data IsOutcome (command : Command) (texts : GivenTexts) : Outcome → Type 0 where
  faulty_configuration : (file : List ℕ) (number : ℕ) (kind : ReadKind) → AsksNetworks command.kind →
      IsFirstRefused (line_fault number kind) (text_names command) texts.configs file →
      IsOutcome command texts (Refused (Config file number kind))
  no_network : (all : List Configuration) (refusal : NetRefusal) → ReadsTexts texts.configs all →
      RefusesFirst refusal (groups_of command.kind texts.configs) → refusal ≢ OutOfMemory →
      IsOutcome command texts (Refused (NoNetwork refusal))
  off_start : (net : Network) (others : List Network) (router : ℕ) (config : Configuration) →
      GiveNetworks (groups_of command.kind texts.configs) (net ∷ others) → NeedsStart command.kind →
      IsLowestOffStart net router → HasConfiguration net router config → IsOutcome command texts (Refused (OffStart config.name))
  decided : (net : Network) (others : List Network) (decision : Decision) →
      GiveNetworks (groups_of command.kind texts.configs) (net ∷ others) → (NeedsStart command.kind → IsAtStart net) →
      IsDecision command.kind (input_of command texts net others) decision → IsOutcome command texts (Decided net decision)
  surveyed : (survey : SurveyText) → command.kind ≡ SurveyTexts → IsSurveyText (survey_files command.configs texts.configs) survey →
      IsOutcome command texts (Survey survey.stands_out survey.text)
  observed : (order before : NamedText) (outcome : Outcome) → command.kind ≡ Observe → named_texts command.own texts.own ≡ order ∷ before ∷ [] →
      IsNightOutcome (night_texts order (config_texts_of (before.file ∷ []) (before.text ∷ [])) (config_texts_of command.configs texts.configs)) outcome →
      IsOutcome command texts outcome
