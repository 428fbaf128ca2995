-- What reading files answers.
use Rattle.std.specs.Prelude.{◌≡◌, ℕ, ◌+◌, ◌≤◌, List, [], ◌∷◌, ◌++◌, Result, Ok, Err}
use Rattle.store_edge.specs.Files.{ReadsSoFar}
use Rattle.migrate_cli.specs.Reading.{Contents, File, file_names, IsReadOf, AreRead, AreWithin, IsShort, IsTooLong, PassesTotal, ReadUpTo, counted, total_of}
use Rattle.migrate_cli.specs.Reading.{LastFailed, NoneFailed, to_read, ToRead}
use Rattle.migrate_cli.specs.declared.reading.Stop.{Stop}
use Rattle.migrate_cli.specs.declared.reading.Stop.TheVariants.{Fault, Long, Total, OutOfMemory}
use Rattle.migrate_cli.specs.declared.reading.TheConstants.{CONFIGS_MOST}

-- texts that were read, and how many of their bytes count
pub record KeptTexts : Type 0 where
  pub all : List (List ℕ)
  pub counted : ℕ

-- why the next file stops the reading, where so many bytes were counted
abbrev pub StopsAt : Contents → File → ℕ → Stop → Type 0
StopsAt content file before (Fault name) = name.now ≡ file.name
StopsAt content file before (Long name) = (name.now ≡ file.name) × IsTooLong content file
StopsAt content file before (Total number) = PassesTotal content file before number
StopsAt content file before OutOfMemory = Unit {0}

-- why the reading of one file stops
abbrev pub StopsAlone : Contents → File → Stop → Type 0
StopsAlone content file (Fault name) = name.now ≡ file.name
StopsAlone content file (Long name) = (name.now ≡ file.name) × IsTooLong content file
StopsAlone content file (Total number) = ⊥
StopsAlone content file OutOfMemory = Unit {0}

-- the reads where reading stops: the last one failed where that is why, and else none did
abbrev pub StopReads : Stop → ReadsSoFar → ReadsSoFar → Type 0
StopReads (Fault name) before after = LastFailed before after
StopReads (Long name) before after = NoneFailed before after
StopReads (Total number) before after = NoneFailed before after
StopReads OutOfMemory before after = NoneFailed before after

-- and none did where all was read
abbrev pub EndReads : {A : Type 0} → Result A Stop → ReadsSoFar → ReadsSoFar → Type 0
EndReads (Ok _) before after = NoneFailed before after
EndReads (Err stop) before after = StopReads stop before after

-- the first ones of a list are these
pub record IsFrontOf {A : Type 0} (all front : List A) : Type 0 where
  pub rest : List A
  pub all_are : all ≡ front ++ rest

-- the names that a read of this name asks for: it alone, or none where memory ran out
abbrev pub AsksFor : {A : Type 0} → List ℕ → List (List ℕ) → Result A Stop → Type 0
AsksFor name asked (Ok _) = asked ≡ name ∷ []
AsksFor name asked (Err (Fault _)) = asked ≡ name ∷ []
AsksFor name asked (Err (Long _)) = asked ≡ name ∷ []
AsksFor name asked (Err (Total _)) = asked ≡ name ∷ []
AsksFor name asked (Err OutOfMemory) = IsFrontOf (name ∷ []) asked

-- a read of this name has asked for these names besides those before
pub record HasAsked {A : Type 0} (name : List ℕ) (before after : List (List ℕ)) (answer : Result A Stop) : Type 0 where
  pub asked : List (List ℕ)
  pub asked_is : after ≡ before ++ asked
  pub asks_for : AsksFor name asked answer

-- one more text, within its limit, stands after those that were kept before, and the bytes that count are within theirs
pub record IsNextText (content : Contents) (file : File) (before after : KeptTexts) : Type 0 where
  pub text : List ℕ
  pub read : IsReadOf content file text
  pub short : IsShort file text
  pub last : after.all ≡ before.all ++ text ∷ []
  pub more : after.counted ≡ before.counted + counted file text
  pub together : after.counted ≤ CONFIGS_MOST

-- the reading of some files stops at one of them
pub record StopsIn (content : Contents) (files : List File) (asked : List (List ℕ)) (stop : Stop) : Type 0 where
  pub texts : List (List ℕ)
  pub file : File
  pub up_to : ReadUpTo (to_read content files) asked texts file
  pub stops : StopsAt content file (total_of up_to.before texts) stop

-- the names that were asked for when memory ran out: none, or those up to a file before which all were read within the limits
pub data MayRead (content : Contents) (files : List File) : List (List ℕ) → Type 0 where
  none_yet : MayRead content files []
  so_far : (asked texts : List (List ℕ)) (file : File) → ReadUpTo (to_read content files) asked texts file → MayRead content files asked

-- the answer of reading some files, and the names that were asked for
abbrev pub StopsAmong : Contents → List File → List (List ℕ) → Stop → Type 0
StopsAmong content files asked (Fault name) = StopsIn content files asked (Fault name)
StopsAmong content files asked (Long name) = StopsIn content files asked (Long name)
StopsAmong content files asked (Total number) = StopsIn content files asked (Total number)
StopsAmong content files asked OutOfMemory = MayRead content files asked

-- all were read, and are within the limits; or the reading stopped
abbrev pub ReadsOrStops : Contents → List File → List (List ℕ) → Result KeptTexts Stop → Type 0
ReadsOrStops content files asked (Ok kept) = (asked ≡ file_names files) × AreRead content files kept.all × AreWithin files kept.all
ReadsOrStops content files asked (Err stop) = StopsAmong content files asked stop

-- some names were asked for, and so much was read of the files
pub record HasRead (all : ToRead) (asked_before asked_after : List (List ℕ)) (answer : Result KeptTexts Stop) : Type 0 where
  pub asked : List (List ℕ)
  pub asked_is : asked_after ≡ asked_before ++ asked
  pub reads : ReadsOrStops all.content all.files asked answer
