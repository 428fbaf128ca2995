-- The files of `observe` as the code hands them on.
use Rattle.std.specs.Prelude.{◌≡◌, ◌≢◌, List, [], ◌∷◌, map}
use Rattle.net_model.specs.Configuration.{Configuration}
use Rattle.net_model.specs.Refusals.{Refuses}
use Rattle.net_model.specs.declared.refusal.NetRefusal.{NetRefusal}
use Rattle.net_model.specs.declared.refusal.NetRefusal.TheVariants.{OutOfMemory}
use Rattle.migration_report.specs.declared.outcome.Outcome.{Outcome}
use Rattle.migration_report.specs.declared.outcome.Outcome.TheVariants.{Refused}
use Rattle.migration_report.specs.declared.refusal.Refusal.TheVariants.{Network as NoNetwork}
use Rattle.migrate_cli.specs.ObserveDecision.{ConfigTexts, NightTexts, config_texts_of, night_texts}
use Rattle.migrate_cli.specs.Reading.{named_text}
use Rattle.migrate_cli.specs.declared.observing.NightFiles.{NightFiles}

-- the text of the configurations of before with its name, and those of now
abbrev pub before_texts_in : NightFiles → ConfigTexts
before_texts_in files = config_texts_of (files.before_file.now ∷ []) (files.before.now ∷ [])

abbrev pub current_texts_in : NightFiles → ConfigTexts
current_texts_in files = config_texts_of (map (λ name. name.now) files.names.now) files.texts.now

-- the texts of all files
abbrev pub night_texts_in : NightFiles → NightTexts
night_texts_in files = night_texts (named_text files.file.now files.order.now) (before_texts_in files) (current_texts_in files)

-- configurations make no network, and this tells why
pub record RefusesConfigs (configs : List Configuration) (outcome : Outcome) : Type 0 where
  pub refusal : NetRefusal
  pub refuses : Refuses refusal configs
  pub told : refusal ≢ OutOfMemory
  pub is : outcome ≡ Refused (NoNetwork refusal)
