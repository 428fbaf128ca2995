use Rattle.std.proofs.Common.{take}
use Rattle.std.specs.List.{fold}
use Rattle.migrate_words.proofs.Entries.{with_entry}
use Rattle.migrate_words.specs.steps.LineSteps.{IsWhole, bare_line}
use Rattle.migrate_words.proofs.lines.command_line.Given as goal

-- the line has the subcommands of the entries so far
abbrev pub invariant-loop-entry : goal.invariant-loop-entry
invariant-loop-entry l = IsWhole (fold with_entry bare_line (take l.entry-index l.entry-items)) l.line
