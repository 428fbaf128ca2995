-- What `observe` comes to on the texts of an order file, of the configurations before a migration, and of those of now.
use Rattle.std.specs.Prelude.{◌≡◌, ◌≢◌, ℕ, List, length}
use Rattle.ios_reader.specs.declared.kind.ReadKind.{ReadKind}
use Rattle.isis_writer.specs.ReadTexts.{ReadsTexts}
use Rattle.net_model.specs.Configuration.{Configuration}
use Rattle.net_model.specs.Network.{Network, HasConfiguration}
use Rattle.net_model.specs.OffStarts.{IsLowestOffStart}
use Rattle.net_model.specs.Refusals.{IsNetwork, Refuses}
use Rattle.net_model.specs.declared.refusal.NetRefusal.{NetRefusal}
use Rattle.net_model.specs.declared.refusal.NetRefusal.TheVariants.{OutOfMemory}
use Rattle.order_core.specs.Rankings.{IsRanking}
use Rattle.step_scripts.specs.FaultyLines.{IsLeastFaultyLine}
use Rattle.step_scripts.specs.WaveFiles.{NamesWaves}
use Rattle.step_scripts.specs.declared.kind.OrderKind.{OrderKind}
use Rattle.step_scripts.specs.declared.version.Version.{Version}
use Rattle.observed_night.specs.ObservedTexts.{IsObserved}
use Rattle.observed_night.specs.declared.night.Observed.{Observed}
use Rattle.observed_night.specs.declared.night.Observed.TheVariants.{Differs, Astray, Journal}
use Rattle.migration_report.specs.declared.decision.Decision.{Decision}
use Rattle.migration_report.specs.declared.decision.Decision.TheVariants.{BadOrder, NotObserved}
use Rattle.migration_report.specs.declared.decision.Decision.TheVariants as decision
use Rattle.migration_report.specs.declared.outcome.Outcome.{Outcome}
use Rattle.migration_report.specs.declared.outcome.Outcome.TheVariants.{Refused, Decided}
use Rattle.migration_report.specs.declared.refusal.Refusal.TheVariants.{Config, Network as NoNetwork, OffStart}
use Rattle.migrate_cli.specs.Configurations.{GiveNetwork, IsAtStart, IsFirstRefused, line_fault}
use Rattle.migrate_cli.specs.Reading.{NamedText}

-- texts of configurations, and the names of their files
pub record ConfigTexts : Type 0 where
  pub names : List (List ℕ)
  pub texts : List (List ℕ)

abbrev pub config_texts_of : List (List ℕ) → List (List ℕ) → ConfigTexts
config_texts_of names texts = record { names = names; texts = texts }

-- texts of configurations give no network: one has a faulty line, or they are read and the network is refused
pub data RefusesTexts (files : ConfigTexts) : Outcome → Type 0 where
  faulty_line : (file : List ℕ) (number : ℕ) (kind : ReadKind) → IsFirstRefused (line_fault number kind) files.names files.texts file →
      RefusesTexts files (Refused (Config file number kind))
  no_net : (all : List Configuration) (refusal : NetRefusal) → ReadsTexts files.texts all → Refuses refusal all → refusal ≢ OutOfMemory →
      RefusesTexts files (Refused (NoNetwork refusal))

-- what is decided where this is observed: a journal is a yes
abbrev pub told_decision : Observed → Decision
told_decision (Differs text) = NotObserved text
told_decision (Astray text) = NotObserved text
told_decision (Journal text) = decision.Observed text

-- what is decided of the networks of before and of now: the order file has a faulty line, or names a wave list of the routers, and
-- this is observed
pub data IsObserveDecision (before now : Network) (order : NamedText) : Decision → Type 0 where
  faulty_waves : (number : ℕ) (kind : OrderKind) → IsLeastFaultyLine before order.text number kind →
      IsObserveDecision before now order (BadOrder order.file number kind)
  of_waves : (version : Version) (ranks : List ℕ) (observed : Observed) (decision : Decision) → NamesWaves before order.text version ranks →
      IsNetwork before → IsRanking (length before) ranks → IsObserved before now ranks observed → decision ≡ told_decision observed →
      IsObserveDecision before now order decision

-- the texts of `observe`: the order file, the configurations of before, those of now
pub record NightTexts : Type 0 where
  pub order : NamedText
  pub before : ConfigTexts
  pub current : ConfigTexts

abbrev pub night_texts : NamedText → ConfigTexts → ConfigTexts → NightTexts
night_texts order before now = record { order = order; before = before; current = now }

-- each case: the configurations of before give no network, or one with a router that isn't where a migration starts; else those of
-- now give none; else it is decided
pub data IsNightOutcome (texts : NightTexts) : Outcome → Type 0 where
  refused_before : (outcome : Outcome) → RefusesTexts texts.before outcome → IsNightOutcome texts outcome
  off_before : (net : Network) (router : ℕ) (config : Configuration) → GiveNetwork texts.before.texts net → IsLowestOffStart net router →
      HasConfiguration net router config → IsNightOutcome texts (Refused (OffStart config.name))
  refused_now : (net : Network) (outcome : Outcome) → GiveNetwork texts.before.texts net → IsAtStart net → RefusesTexts texts.current outcome →
      IsNightOutcome texts outcome
  night_decided : (net now : Network) (decision : Decision) → GiveNetwork texts.before.texts net → IsAtStart net →
      GiveNetwork texts.current.texts now → IsObserveDecision net now texts.order decision → IsNightOutcome texts (Decided net decision)
