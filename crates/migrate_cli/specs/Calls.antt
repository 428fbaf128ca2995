-- A call, and what stands outside before and after it.
use Rattle.std.specs.Prelude.{ℕ, List, Option}
use Rattle.store_edge.specs.Files.{ReadsSoFar}
use Rattle.migrate_cli.specs.Reading.{Contents}

-- a call: its words, and what the files tell of each name
pub record Call : Type 0 where
  pub words : List (List ℕ)
  pub content : Contents

-- what stands outside at a moment: the reads so far, the bytes written so far where they are told, and the faults of the sink
pub record Outside : Type 0 where
  pub reads : ReadsSoFar
  pub written : Option (List ℕ)
  pub sink_faults : ℕ

-- what stands outside before a call and after it
pub record Course : Type 0 where
  pub before : Outside
  pub after : Outside

abbrev pub course : Outside → Outside → Course
course before after = record { before = before; after = after }

-- the call of these words, where the files tell this
abbrev pub call_of : List (List ℕ) → Contents → Call
call_of words content = record { words = words; content = content }

-- the names asked for, how many reads failed, and how many names were asked for when one last failed
abbrev pub reads_so_far : List (List ℕ) → ℕ → Option ℕ → ReadsSoFar
reads_so_far asked faults failed_at = record { asked = asked; faults = faults; failed_at = failed_at }

-- the reads, the bytes written, the faults of the sink
abbrev pub outside : ReadsSoFar → Option (List ℕ) → ℕ → Outside
outside reads written sink_faults = record { reads = reads; written = written; sink_faults = sink_faults }
