-- The laws of answers: a call has one, and ends with it.
use Rattle.std.specs.Prelude.{◌≡◌, ◌≢◌, ℕ, List, IsSome, All}
use Rattle.migrate_words.specs.declared.command.Command.{Command}
use Rattle.migration_report.specs.Outcomes.{status_of}
use Rattle.migration_report.specs.declared.outcome.Outcome.{Outcome}
use Rattle.migration_report.specs.declared.outcome.Outcome.TheVariants.{Refused}
use Rattle.migration_report.specs.declared.refusal.Refusal.TheVariants.{Words}
use Rattle.migration_report.specs.declared.status.Status.{Status}
use Rattle.migration_report.specs.declared.status.Status.TheVariants.{ReadFault, WriteFault, Memory}
use Rattle.migrate_cli.specs.Answers.{IsAnswer}
use Rattle.migrate_cli.specs.Calls.{Call}
use Rattle.migrate_cli.specs.CommandFiles.{given_texts}
use Rattle.migrate_cli.specs.Outcomes.{IsOutcome}
use Rattle.migrate_cli.specs.Reading.{Contents}

-- the texts that a command reads come to one outcome, so to one status and one text
abbrev pub OneOutcomeLaw : Type 0
OneOutcomeLaw =
    (command : Command) (own configs : List (List ℕ)) (one other : Outcome) →
    IsOutcome command (given_texts own configs) one → IsOutcome command (given_texts own configs) other → one ≡ other

-- what a name's file holds is told
abbrev pub IsFileTold : Contents → List ℕ → Type 0
IsFileTold content name = IsSome (content name)

-- two outcomes tell the same: they are the same, or they say that the words are refused, and maybe something else of them
-- after the first line
pub data TellTheSame : Outcome → Outcome → Type 0 where
  same_outcome : {outcome : Outcome} → TellTheSame outcome outcome
  words_refused : (detail other : List ℕ) → TellTheSame (Refused (Words detail)) (Refused (Words other))

-- where the files that an answer asks for are told, it is the one answer of the call besides a read fault, which may come
-- at any file: the same names are asked for, the status is the same, and so is the outcome, but for what stands after the
-- first line of the refusal of words
abbrev pub OneAnswerLaw : Type 0
OneAnswerLaw =
    (call : Call) (asked other_asked : List (List ℕ)) (one other : Outcome) → All (IsFileTold call.content) asked →
    status_of one ≢ ReadFault → status_of other ≢ ReadFault → IsAnswer call asked one → IsAnswer call other_asked other →
    (asked ≡ other_asked) × (status_of one ≡ status_of other) × TellTheSame one other

-- how a call ends whose answer has this status: with it, or with a read fault, with a write fault, or for want of memory
pub data MayEnd (status : Status) : Status → Type 0 where
  as_answered : MayEnd status status
  by_read_fault : MayEnd status ReadFault
  by_write_fault : MayEnd status WriteFault
  by_memory : MayEnd status Memory

-- a call ends as its answer says, where the files that it asks for are told
abbrev pub EndsByAnswer : Call → Status → Type 0
EndsByAnswer call result =
    (asked : List (List ℕ)) (outcome : Outcome) → All (IsFileTold call.content) asked → status_of outcome ≢ ReadFault →
    IsAnswer call asked outcome → MayEnd (status_of outcome) result
