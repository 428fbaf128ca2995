-- What a read does, and what the files in memory are.
use Rattle.std.specs.Prelude.{◌≡◌, ℕ, ◌+◌, List, [], ◌∷◌, ◌++◌, length, Contains, Option, Some, None, Result, Ok, Err, ◌⊎◌}
use Rattle.std.specs.Prelude.{bytes_eq}
use Rattle.std.specs.Map.{lookup}
use Rattle.store_edge.specs.declared.files.FileAnswer.{FileAnswer}
use Rattle.store_edge.specs.declared.files.FileAnswer.TheVariants.{Failed, OutOfMemory}

-- the names asked for after a read: its name comes last, unless memory ran out
abbrev pub asked_after : Result (List ℕ) FileAnswer → List (List ℕ) → List ℕ → List (List ℕ)
asked_after (Ok bytes) asked name = asked ++ name ∷ []
asked_after (Err Failed) asked name = asked ++ name ∷ []
asked_after (Err OutOfMemory) asked name = asked

-- the count of faults after a read: one more where it failed
abbrev pub faults_after : Result (List ℕ) FileAnswer → ℕ → ℕ
faults_after (Ok bytes) faults = faults
faults_after (Err Failed) faults = faults + 1
faults_after (Err OutOfMemory) faults = faults

-- how many names were asked for when a read last failed, after a read: so many as are asked for now where it failed
abbrev pub failed_at_after : Result (List ℕ) FileAnswer → List (List ℕ) → Option ℕ → Option ℕ
failed_at_after (Ok bytes) asked failed_at = failed_at
failed_at_after (Err Failed) asked failed_at = Some (length asked)
failed_at_after (Err OutOfMemory) asked failed_at = failed_at

-- the reads so far: the names asked for, how many of them failed, and how many names were asked for when one last failed
pub record ReadsSoFar : Type 0 where
  pub asked : List (List ℕ)
  pub faults : ℕ
  pub failed_at : Option ℕ

-- no read so far
abbrev pub no_reads : ReadsSoFar
no_reads = record { asked = []; faults = 0; failed_at = None }

-- the reads after one more, of this name
abbrev pub reads_after : Result (List ℕ) FileAnswer → ReadsSoFar → List ℕ → ReadsSoFar
reads_after answer reads name = record {
  asked = asked_after answer reads.asked name;
  faults = faults_after answer reads.faults;
  failed_at = failed_at_after answer (asked_after answer reads.asked name) reads.failed_at;
}

-- the bytes of the first file with this name
abbrev pub file_bytes : List (List ℕ × List ℕ) → List ℕ → Option (List ℕ)
file_bytes files name = lookup (bytes_eq name) files

-- files in memory: names with their bytes, the numbers of the reads that fail, and the reads so far
pub record MemoryFilesState : Type 0 where
  pub files : List (List ℕ × List ℕ)
  pub failing : List ℕ
  pub reads : ReadsSoFar

-- the next read of this name fails: its number is one that fails, counted from 1, or there is no file of that name
abbrev pub ReadFails : MemoryFilesState → List ℕ → Type 0
ReadFails state name = Contains state.failing (length state.reads.asked + 1) ⊎ (file_bytes state.files name ≡ None)

-- files in memory that never fail, and the names asked for
pub record SureFilesState : Type 0 where
  pub files : List (List ℕ × List ℕ)
  pub asked : List (List ℕ)
