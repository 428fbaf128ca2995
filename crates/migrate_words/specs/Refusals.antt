-- Why words are refused.
use Rattle.std.specs.Prelude.{List, Result, Ok, Err}
use Rattle.clap.specs.Words.{Text}
use Rattle.migrate_words.specs.Asked.{AreTaken, Asks, HasValueOff}
use Rattle.migrate_words.specs.declared.command.Command.{Command}
use Rattle.migrate_words.specs.declared.refusal.WordsRefused.{WordsRefused}
use Rattle.migrate_words.specs.declared.refusal.WordsRefused.TheVariants.{Words, Number, OutOfMemory}

-- why there is no command: the command line doesn't take the words; it takes them, and a value of them is off; or memory ran
-- out
abbrev pub IsRefusal : List Text → WordsRefused → Type 0
IsRefusal words (Words detail) = AreTaken words → ⊥
IsRefusal words Number = AreTaken words × HasValueOff words
IsRefusal words OutOfMemory = Unit {0}

-- the answer to words: the command that they ask for, or why there is none
abbrev pub AnswersWords : List Text → Result Command WordsRefused → Type 0
AnswersWords words (Ok command) = Asks words command
AnswersWords words (Err refused) = IsRefusal words refused
