-- What is read of words, or why they are refused.
use Rattle.std.specs.Prelude.{◌≡◌, ◌≢◌, List, Result, Ok, Err, Some}
use Rattle.clap.specs.Words.{Row, Text, subcommand_rows_of}
use Rattle.clap.specs.declared.parser.matches.ArgMatches.{ArgMatches}
use Rattle.clap.specs.declared.error.kind.ErrorKind.{ErrorKind}
use Rattle.clap.specs.declared.error.kind.ErrorKind.TheVariants as kind
use Rattle.migrate_words.specs.Asked.{Gives}
use Rattle.migrate_words.specs.Usages.{usage_of}
use Rattle.migrate_words.specs.declared.command.Command.{Command}
use Rattle.migrate_words.specs.declared.command.CommandKind.{CommandKind}
use Rattle.migrate_words.specs.declared.refusal.WordsRefused.{WordsRefused}
use Rattle.migrate_words.specs.declared.refusal.WordsRefused.TheVariants.{Words, Number, OutOfMemory}

-- what is said of an error of this kind: its text, but of want of memory
abbrev pub IsToldCause : ErrorKind → WordsRefused → Type 0
IsToldCause cause (Words detail) = cause ≢ kind.OutOfMemory
IsToldCause cause Number = ⊥
IsToldCause cause OutOfMemory = Unit {0}

-- what is read is what it stands for; a number is refused where there is nothing that it stands for
abbrev pub ReadsAs : {T U : Type 0} → (T → U) → (U → Type 0) → Result T WordsRefused → Type 0
ReadsAs seen StandsFor (Ok read) = StandsFor (seen read)
ReadsAs seen StandsFor (Err (Words detail)) = ⊥
ReadsAs {T} {U} seen StandsFor (Err Number) = (u : U) → StandsFor u → ⊥
ReadsAs seen StandsFor (Err OutOfMemory) = Unit {0}

-- the command is of this kind, with these values of its arguments
abbrev pub IsOfKind : CommandKind → List Row → Command → Type 0
IsOfKind kind rows command = (command.kind ≡ kind) × Gives rows command

-- the command is that of the subcommand of this name, with these values of its arguments
abbrev pub NamesCommand : Text → List Row → Command → Type 0
NamesCommand name rows command = ((usage_of command.kind).word ≡ name) × Gives rows command

-- the command is that of the subcommand that was entered, with the values of its arguments
abbrev pub IsEntered : ArgMatches → Command → Type 0
IsEntered matches command =
    (rows : List Row) × (subcommand_rows_of matches ≡ Some ((usage_of command.kind).word, rows)) × Gives rows command
