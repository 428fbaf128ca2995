-- The exit codes of the program.
use Rattle.std.specs.Prelude.{ℕ}
use Rattle.migration_report.specs.declared.status.Status.{Status}
use Rattle.migration_report.specs.declared.status.Status.TheVariants.{Done, Negative, Words, ReadFault, WriteFault, Refused, Limit, Unsound, Spent, Memory}

-- the exit code of each status
abbrev pub code_of : Status → ℕ
code_of Done = 0
code_of Negative = 1
code_of Words = 2
code_of ReadFault = 3
code_of WriteFault = 4
code_of Refused = 5
code_of Limit = 6
code_of Unsound = 7
code_of Spent = 8
code_of Memory = 9
