use Rattle.std.proofs.Common.{map, take}
use Rattle.clap.specs.Words.{Shape}
use Rattle.migrate_words.specs.CommandLine.{one_text}
use Rattle.migrate_words.specs.steps.LineSteps.{IsLine, with_arguments}
use Rattle.migrate_words.specs.steps.Seen.{argument_names}
use Rattle.migrate_words.proofs.lines.with_files.Given as goal

-- the line has the arguments for the files so far
abbrev pub invariant-loop-file : goal.invariant-loop-file
invariant-loop-file l = (shape : Shape) → IsLine shape l.initial.line →
    IsLine (with_arguments shape (map one_text (argument_names (take l.file-index l.files)))) l.line
