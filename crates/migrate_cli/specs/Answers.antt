-- What a call comes to, and how it ends.
use Rattle.std.specs.Prelude.{◌≡◌, ◌≢◌, ℕ, ◌<◌, ◌≤◌, List, [], ◌++◌, length}
use Rattle.store_edge.specs.Files.{ReadsSoFar}
use Rattle.store_edge.specs.Sink.{AddsBytes, AddsFront}
use Rattle.migrate_words.specs.Asked.{Asks}
use Rattle.migrate_words.specs.declared.command.Command.{Command}
use Rattle.migration_report.specs.Outcomes.{status_of, outcome_text}
use Rattle.migration_report.specs.declared.outcome.Outcome.{Outcome}
use Rattle.migration_report.specs.declared.outcome.Outcome.TheVariants.{Refused}
use Rattle.migration_report.specs.declared.refusal.Refusal.TheVariants.{Words, Read, Files, Length, Total}
use Rattle.migration_report.specs.declared.status.Status.{Status}
use Rattle.migration_report.specs.declared.status.Status.TheVariants.{ReadFault, WriteFault, Memory}
use Rattle.migrate_cli.specs.Calls.{Call, Outside, course, Course}
use Rattle.migrate_cli.specs.CallWords.{AreRefused}
use Rattle.migrate_cli.specs.CommandFiles.{config_texts, files_of, own_texts, given_texts}
use Rattle.migrate_cli.specs.Outcomes.{IsOutcome}
use Rattle.migrate_cli.specs.Reading.{File, AreRead, AreWithin, IsTooLong, LastFailed, NoneFailed, PassesTotal, ReadUpTo, file_names, total_of, to_read}
use Rattle.migrate_cli.specs.declared.run_call.TheConstants.{FILES_MOST}

-- the words ask for this, and the configurations are no more files than there may be
pub record AsksForFew (words : List (List ℕ)) (command : Command) : Type 0 where
  pub asked : Asks words command
  pub few : length command.configs ≤ FILES_MOST

-- each case, with the names that are asked for, and what the call comes to
pub data IsAnswer (call : Call) : List (List ℕ) → Outcome → Type 0 where
  refused_words : (detail : List ℕ) → AreRefused call.words detail → IsAnswer call [] (Refused (Words detail))
  many_files : (command : Command) → Asks call.words command → FILES_MOST < length command.configs →
      IsAnswer call [] (Refused (Files (length command.configs)))
  read_fault : (command : Command) (asked texts : List (List ℕ)) (file : File) → AsksForFew call.words command →
      ReadUpTo (to_read call.content (files_of command)) asked texts file → IsAnswer call asked (Refused (Read file.name))
  long_file : (command : Command) (asked texts : List (List ℕ)) (file : File) → AsksForFew call.words command →
      ReadUpTo (to_read call.content (files_of command)) asked texts file → IsTooLong call.content file →
      IsAnswer call asked (Refused (Length file.name))
  long_files : (command : Command) (asked texts : List (List ℕ)) (file : File) (number : ℕ) → AsksForFew call.words command →
      (up : ReadUpTo (to_read call.content (files_of command)) asked texts file) →
      PassesTotal call.content file (total_of up.before texts) number → IsAnswer call asked (Refused (Total number))
  judged : (command : Command) (texts : List (List ℕ)) (outcome : Outcome) → AsksForFew call.words command →
      AreRead call.content (files_of command) texts → AreWithin (files_of command) texts →
      IsOutcome command (given_texts (own_texts command texts) (config_texts command texts)) outcome →
      IsAnswer call (file_names (files_of command)) outcome

-- the names that were asked for when memory ran out: none, or those up to a file before which all were read within the limits
pub data MayAsk (call : Call) : List (List ℕ) → Type 0 where
  asks_none : MayAsk call []
  asks_some : (command : Command) (asked texts : List (List ℕ)) (file : File) → AsksForFew call.words command →
      ReadUpTo (to_read call.content (files_of command)) asked texts file → MayAsk call asked

-- the reads agree with a status: the last one failed, and none before it, where that is a read fault, and else none did
pub record ReadsAgree (status : Status) (before after : ReadsSoFar) : Type 0 where
  pub read_fault : status ≡ ReadFault → LastFailed before after
  pub unless_read_fault : status ≢ ReadFault → NoneFailed before after

-- the reads where memory ran out: none failed; or the last one did, and there was no memory to tell it
pub data MayFail (before after : ReadsSoFar) : Type 0 where
  none_failed : NoneFailed before after → MayFail before after
  last_failed : LastFailed before after → MayFail before after

-- how a call ends that asked for these names: the text of its outcome is written whole, or its front, or there was no memory
-- and nothing is written
pub data Ends (call : Call) (asked : List (List ℕ)) (outside : Course) : Status → Type 0 where
  whole : (outcome : Outcome) → IsAnswer call asked outcome →
      ReadsAgree (status_of outcome) outside.before.reads outside.after.reads →
      AddsBytes outside.before.written outside.after.written (outcome_text outcome) → Ends call asked outside (status_of outcome)
  cut : (outcome : Outcome) → IsAnswer call asked outcome →
      ReadsAgree (status_of outcome) outside.before.reads outside.after.reads →
      AddsFront outside.before.written outside.after.written (outcome_text outcome) → Ends call asked outside WriteFault
  no_memory : MayAsk call asked → MayFail outside.before.reads outside.after.reads → outside.after.written ≡ outside.before.written →
      Ends call asked outside Memory

-- a call asked for some names besides those before, and ended with what its words and its files come to
pub record Answers (call : Call) (before after : Outside) (status : Status) : Type 0 where
  pub asked : List (List ℕ)
  pub asked_is : after.reads.asked ≡ before.reads.asked ++ asked
  pub ends : Ends call asked (course before after) status
