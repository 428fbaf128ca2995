-- Why the configurations of some files aren't read.
use Rattle.std.specs.Prelude.{◌≡◌, ℕ, List, [], ◌∷◌}
use Rattle.ios_reader.specs.Texts.{IsRefusedText, ReadsText}
use Rattle.net_model.specs.Configuration.{Configuration}
use Rattle.migrate_cli.specs.Configurations.{IsFirstRefused, line_fault}
use Rattle.migrate_cli.specs.declared.configurations.Unread.{Unread}
use Rattle.migrate_cli.specs.declared.configurations.Unread.TheVariants.{Bad, OutOfMemory}
use Rattle.migration_report.specs.declared.outcome.Outcome.{Outcome}
use Rattle.migration_report.specs.declared.outcome.Outcome.TheVariants.{Refused}
use Rattle.migration_report.specs.declared.refusal.Refusal.TheVariants.{Config}

-- the file of this name and text has a faulty line, or want of memory
abbrev pub IsUnreadText : List ℕ → List ℕ → Unread → Type 0
IsUnreadText name text (Bad file line kind) = (file.now ≡ name) × IsRefusedText text line kind
IsUnreadText name text OutOfMemory = Unit {0}

-- the first file that has a faulty line, or want of memory
abbrev pub IsUnread : List (List ℕ) → List (List ℕ) → Unread → Type 0
IsUnread names texts (Bad file line kind) = IsFirstRefused (line_fault line kind) names texts file.now
IsUnread names texts OutOfMemory = Unit {0}

-- these are two texts, which are read as these configurations
pub record ReadsBoth (texts : List (List ℕ)) (olds news : List Configuration) : Type 0 where
  pub old : List ℕ
  pub new : List ℕ
  pub texts_are : texts ≡ old ∷ new ∷ []
  pub reads_old : ReadsText old olds
  pub reads_new : ReadsText new news

-- what a call comes to where some files aren't read
abbrev pub RefusesUnread : Unread → Outcome → Type 0
RefusesUnread (Bad file line kind) outcome = outcome ≡ Refused (Config file.now line kind)
RefusesUnread OutOfMemory outcome = ⊥
