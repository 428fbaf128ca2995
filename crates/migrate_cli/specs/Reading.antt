-- What is read of the files of a call, and where reading stops.
use Rattle.std.specs.Prelude.{◌≡◌, ℕ, ◌+◌, ◌<◌, ◌≤◌, List, [], ◌∷◌, ◌++◌, Bool, Option, Some, length, map, take, IfSome, if◌then◌else◌}
use Rattle.store_edge.specs.Files.{ReadsSoFar}
use Rattle.migrate_cli.specs.declared.reading.TheConstants.{CONFIGS_MOST}

-- what a name's file holds, where the files tell it
abbrev pub Contents : Type 0
Contents = List ℕ → Option (List ℕ)

-- a file that a command reads: its name, the most bytes that it may have, and whether it counts to the bytes of all configurations
pub record File : Type 0 where
  pub name : List ℕ
  pub most : ℕ
  pub counts : Bool

-- a file that was read: its name and its text
pub record NamedText : Type 0 where
  pub file : List ℕ
  pub text : List ℕ

abbrev pub named_text : List ℕ → List ℕ → NamedText
named_text file text = record { file = file; text = text }

-- files that were read, in their order: their names and their texts
abbrev pub named_texts : List (List ℕ) → List (List ℕ) → List NamedText
named_texts [] texts = []
named_texts (file ∷ files) [] = []
named_texts (file ∷ files) (text ∷ texts) = named_text file text ∷ named_texts files texts

-- files that are to be read, and what is told of them
pub record ToRead : Type 0 where
  pub content : Contents
  pub files : List File

abbrev pub to_read : Contents → List File → ToRead
to_read content files = record { content = content; files = files }

-- the names of some files
abbrev pub file_names : List File → List (List ℕ)
file_names files = map (λ file. file.name) files

-- what is read of a file: at most one byte more than it may have; where the file tells what it holds, its first bytes up to that
pub record IsReadOf (content : Contents) (file : File) (text : List ℕ) : Type 0 where
  pub told : IfSome (content file.name) (λ whole. text ≡ take (file.most + 1) whole)
  pub at_most : length text ≤ file.most + 1

-- what is read of several files, in order
abbrev pub AreRead : Contents → List File → List (List ℕ) → Type 0
AreRead content [] [] = Unit {0}
AreRead content [] (text ∷ texts) = ⊥
AreRead content (file ∷ files) [] = ⊥
AreRead content (file ∷ files) (text ∷ texts) = IsReadOf content file text × AreRead content files texts

-- the bytes of a text that count to those of all configurations
abbrev pub counted : File → List ℕ → ℕ
counted file text = if file.counts then length text else 0

-- the bytes that count, of all texts together
abbrev pub total_of : List File → List (List ℕ) → ℕ
total_of [] texts = 0
total_of (file ∷ files) [] = 0
total_of (file ∷ files) (text ∷ texts) = counted file text + total_of files texts

-- a file has no more bytes than it may have
abbrev pub IsShort : File → List ℕ → Type 0
IsShort file text = length text ≤ file.most

-- each file has no more bytes than it may have
abbrev pub AreShort : List File → List (List ℕ) → Type 0
AreShort [] [] = Unit {0}
AreShort [] (text ∷ texts) = ⊥
AreShort (file ∷ files) [] = ⊥
AreShort (file ∷ files) (text ∷ texts) = IsShort file text × AreShort files texts

-- files are within the limits: each has no more bytes than it may have, and the configurations have at most 64 MiB together
pub record AreWithin (files : List File) (texts : List (List ℕ)) : Type 0 where
  pub each : AreShort files texts
  pub together : total_of files texts ≤ CONFIGS_MOST

-- a file that is longer than it may be
pub record IsTooLong (content : Contents) (file : File) : Type 0 where
  pub text : List ℕ
  pub read : IsReadOf content file text
  pub long : file.most < length text

-- so many bytes were counted, and with this file the configurations pass what they may have together; the number is that of their bytes so far
pub record PassesTotal (content : Contents) (file : File) (before number : ℕ) : Type 0 where
  pub text : List ℕ
  pub read : IsReadOf content file text
  pub short : IsShort file text
  pub number_is : number ≡ before + counted file text
  pub passed : CONFIGS_MOST < number

-- of these files those before one were read, and are within the limits; with it their names are those asked for
pub record ReadUpTo (all : ToRead) (asked : List (List ℕ)) (texts : List (List ℕ)) (file : File) : Type 0 where
  pub before : List File
  pub after : List File
  pub files_are : all.files ≡ before ++ file ∷ after
  pub asked_are : asked ≡ file_names before ++ file.name ∷ []
  pub read : AreRead all.content before texts
  pub within : AreWithin before texts

-- no read failed in between
pub record NoneFailed (before after : ReadsSoFar) : Type 0 where
  pub none : after.faults ≡ before.faults
  pub none_since : after.failed_at ≡ before.failed_at

-- one read failed in between, and it was the last one: the last name asked for is that of the file that can't be read
pub record LastFailed (before after : ReadsSoFar) : Type 0 where
  pub one : after.faults ≡ before.faults + 1
  pub last : after.failed_at ≡ Some (length after.asked)
