-- The laws of the words of a call.
use Rattle.std.specs.Prelude.{◌≡◌, List}
use Rattle.clap.specs.Words.{Text}
use Rattle.migrate_words.specs.Asked.{AreTaken, Asks, HasValueOff, IsInRange}
use Rattle.migrate_words.specs.PlainWords.{AsksPlainly}
use Rattle.migrate_words.specs.declared.command.Command.{Command}

-- words ask for one command
abbrev pub OneCommandLaw : Type 0
OneCommandLaw = (words : List Text) (command other : Command) → Asks words command → Asks words other → command ≡ other

-- what words ask for is within the ranges of the command line
abbrev pub RangesLaw : Type 0
RangesLaw = (words : List Text) (command : Command) → Asks words command → IsInRange command

-- plain words are taken, with just their values
abbrev pub PlainWordsLaw : Type 0
PlainWordsLaw = (words : List Text) (command : Command) → AsksPlainly words command → Asks words command

-- where the command line takes the words and they ask for nothing, a value of them is off; and such words ask for nothing
pub record NumberLaw (words : List Text) : Type 0 where
  pub off : AreTaken words → ((command : Command) → ¬ Asks words command) → HasValueOff words
  pub none : HasValueOff words → (command : Command) → ¬ Asks words command

abbrev pub NumbersLaw : Type 0
NumbersLaw = (words : List Text) → NumberLaw words
