-- From what `clap` answers to the answer to the words.
use Rattle.std.proofs.Common.{arith}
use Rattle.std.proofs.lemmas.Grind.{common_steps}
use Rattle.std.proofs.Common.{◌≡◌, ◌⊎◌, ◌∙◌, List, Result, Ok, Err, [], sym, subst}
use Rattle.clap.specs.Words.{IsAmong, Kinds, Text, fault_of, subcommand_of, subcommand_rows_of}
use Rattle.clap.specs.declared.error.kind.ErrorKind.{ErrorKind}
use Rattle.clap.specs.declared.error.kind.ErrorKind.TheVariants as kind
use Rattle.clap.specs.declared.parser.matches.ArgMatches.{ArgMatches}
use Rattle.migrate_words.specs.CommandLine.{command_line}
use Rattle.migrate_words.specs.Asked.{AreTaken}
use Rattle.migrate_words.specs.Refusals.{AnswersWords, IsRefusal}
use Rattle.migrate_words.specs.steps.Reading.{IsEntered, IsToldCause, ReadsAs}
use Rattle.migrate_words.proofs.TakenLaws.{value_off}
use Rattle.migrate_words.specs.declared.command.Command.{Command}
use Rattle.migrate_words.specs.declared.refusal.WordsRefused.{WordsRefused}
use Rattle.migrate_words.specs.declared.refusal.WordsRefused.TheVariants.{Words, Number, OutOfMemory}

-- the command that was entered is what the words ask for
pub answer_of_matches : (words : List Text) (matches : ArgMatches) (read : Result Command WordsRefused) → AreTaken words
    → subcommand_rows_of matches ≡ subcommand_of command_line words → ReadsAs (λ (command : Command). command) (IsEntered matches) read → AnswersWords words read
answer_of_matches words matches (Ok command) taken same entered = record { taken = taken; rows = entered.0; entered = sym same ∙ entered.1; given = entered.2 }
answer_of_matches words matches (Err (Words detail)) taken same none = absurd none
answer_of_matches words matches (Err Number) taken same none =
    (taken, value_off words taken (λ command asks. none command (asks.rows, same ∙ asks.entered, asks.given)))
answer_of_matches words matches (Err OutOfMemory) taken same none = tt

among_none : (cause : ErrorKind) (kinds : Kinds) → kinds ≡ [] → IsAmong cause kinds → ⊥
among_none cause kinds none among = subst (IsAmong cause) none among

-- an error other than want of memory has a kind that the command line refuses the words for
pub refusal_of_error : (words : List Text) (cause : ErrorKind) (refused : WordsRefused)
    → ((cause ≡ kind.OutOfMemory) ⊎ IsAmong cause (fault_of command_line words)) → IsToldCause cause refused → IsRefusal words refused
refusal_of_error words cause refused fails other = grind (arith, common_steps, among_none)
