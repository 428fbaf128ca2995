-- Files as the code hands them on.
use Rattle.std.specs.Prelude.{◌≡◌, ◌≤◌, ℕ, List, [], All, length}
use Rattle.migrate_cli.specs.CommandFiles.{config_texts, own_files, own_texts, text_names}
use Rattle.migrate_cli.specs.Reading.{AreShort, File}
use Rattle.migrate_cli.specs.declared.files.TheConstants.{FILE_MOST}
use Rattle.migrate_cli.specs.declared.files.Wanted.{Wanted}
use Rattle.migrate_words.specs.declared.command.Command.{Command}
use Rattle.migrate_words.specs.declared.command.CommandKind.{CommandKind}
use Rattle.migrate_words.specs.declared.command.CommandKind.TheVariants.{Delta, Failures, Prepare, Sample}

-- the commands that read configurations: all but `sample`, whose configurations are one text that is made
abbrev pub ReadsFiles : CommandKind → Type 0
ReadsFiles Sample = ⊥
ReadsFiles _ = Unit {0}

-- the commands that are judged without saying how far they are: all but `failures`
abbrev pub IsJudgedAtOnce : CommandKind → Type 0
IsJudgedAtOnce Failures = ⊥
IsJudgedAtOnce _ = Unit {0}

-- the file that is wanted
abbrev pub file_of : Wanted → File
file_of wanted = record { name = wanted.name.now; most = wanted.most; counts = wanted.counts }

-- of the texts that a command reads, these are those of its own files, and these those of its configurations
pub record AreTextsApart (command : Command) (texts own configs : List (List ℕ)) : Type 0 where
  pub own_are : own ≡ own_texts command texts
  pub configs_are : configs ≡ config_texts command texts
  pub own_short : AreShort (own_files command) own
  pub each : length (text_names command) ≡ length configs
  pub configs_short : All (λ text. length text ≤ FILE_MOST) configs

-- the texts of configurations for which a command asks once they are read: all where it writes lines of them, else none
abbrev pub kept_texts : CommandKind → List (List ℕ) → List (List ℕ)
kept_texts Prepare texts = texts
kept_texts Delta texts = texts
kept_texts _ texts = []
