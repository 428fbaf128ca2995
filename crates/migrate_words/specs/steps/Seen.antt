-- The entries of the table of subcommands, as definitions see them.
use Rattle.std.specs.Prelude.{◌≡◌, List, map}
use Rattle.clap.specs.Words.{Text}
use Rattle.migrate_words.specs.Usages.{Usage, usage_of}
use Rattle.migrate_words.specs.declared.command.CommandKind.{CommandKind}
use Rattle.migrate_words.specs.declared.subcommands.OwnFile.{OwnFile}
use Rattle.migrate_words.specs.declared.subcommands.Subcommand.{Subcommand}

abbrev pub kind_of_entry : Subcommand → CommandKind
kind_of_entry entry = entry.kind

-- the names of some files in a usage line
abbrev pub argument_names : List OwnFile → List Text
argument_names files = map (λ file. file.name.now) files

-- the usage line of an entry
abbrev pub usage_seen : Subcommand → Usage
usage_seen entry = record {
  word = entry.word.now;
  number = entry.number;
  own = argument_names entry.own.now;
  configs = entry.configs;
}

-- an entry has the usage line of its command
abbrev pub IsOfTable : Subcommand → Type 0
IsOfTable entry = usage_seen entry ≡ usage_of entry.kind
