-- The command line as it is made, and that it is one of those whose matches and refusals `clap` states exactly.
use Rattle.std.proofs.Common.{arith}
use Rattle.std.proofs.lemmas.Grind.{common_steps}
use Rattle.std.proofs.Common.{◌≡◌, ℕ, ◌+◌, ◌<◌, ◌≤◌, true, List, [], ◌∷◌, length, map, take, get_or, refl, sym, ap}
use Rattle.std.proofs.Common.{append-nil}
use Rattle.std.proofs.lemmas.List.{map-append, take_more, take_all}
use Rattle.clap.specs.Words.{Rule, Shape, is_simple, is_simple_and_free}
use Rattle.migrate_words.specs.CommandLine.{command_line, one_text}
use Rattle.migrate_words.specs.steps.LineSteps.{with_arguments}
use Rattle.migrate_words.specs.steps.Seen.{argument_names}
use Rattle.migrate_words.specs.declared.subcommands.OwnFile.{OwnFile}

pub line_is_simple : is_simple command_line ≡ true
unfolding command_line
line_is_simple = refl

pub line_is_simple_and_free : is_simple_and_free command_line ≡ true
unfolding command_line
line_is_simple_and_free = refl

-- no argument more
pub no_arguments : (shape : Shape) → shape ≡ with_arguments shape []
no_arguments shape = ap (λ (rules : List Rule). record shape { rules = rules }) (sym (append-nil shape.rules))

-- the argument for one more file
pub one_more_file : (shape : Shape) (files : List OwnFile) (i : ℕ) (d : OwnFile) → i < length files →
    with_arguments (with_arguments shape (map one_text (argument_names (take i files)))) (one_text (get_or files i d).name.now ∷ [])
    ≡ with_arguments shape (map one_text (argument_names (take (i + 1) files)))
one_more_file shape files i d within = grind (arith, common_steps, map-append, take_more)

-- all of them
pub whole_line : (shape : Shape) (files : List OwnFile) (i : ℕ) → length files ≤ i →
    with_arguments shape (map one_text (argument_names (take i files))) ≡ with_arguments shape (map one_text (argument_names files))
whole_line shape files i end = grind (arith, common_steps, take_all)
