-- What is read of words, part by part.
use Rattle.std.proofs.lemmas.Grind.{common_steps}
use Rattle.std.proofs.Common.{◌≡◌, ◌∙◌, ℕ, zero, suc, ◌+◌, ◌<◌, List, [], ◌∷◌, ◌++◌, Result, Some, Ok, Err, length, take, get_or}
use Rattle.std.proofs.Common.{ap, arith}
use Rattle.std.proofs.lemmas.List.{map-append, take_more}
use Rattle.std.proofs.lemmas.Slice.Eq.{bytes_eq-Decides}
use Rattle.std.specs.List.{find}
use Rattle.std.specs.Str.{bytes_eq}
use Rattle.std.proofs.lemmas.List.Elements.{AllZip-push}
use Rattle.clap.specs.Words.{Row, Text}
use Rattle.migrate_words.specs.Asked.{HasText, HaveTexts}
use Rattle.migrate_words.specs.Usages.{kinds, usage_of}
use Rattle.migrate_words.specs.steps.Reading.{IsOfKind, NamesCommand, ReadsAs}
use Rattle.migrate_words.specs.steps.Seen.{argument_names}
use Rattle.migrate_words.specs.declared.command.Command.{Command}
use Rattle.migrate_words.specs.declared.command.CommandKind.{CommandKind}
use Rattle.migrate_words.specs.declared.refusal.WordsRefused.{WordsRefused}
use Rattle.migrate_words.specs.declared.refusal.WordsRefused.TheVariants.{Words, Number, OutOfMemory}
use Rattle.migrate_words.specs.declared.subcommands.OwnFile.{OwnFile}
use Rattle.migrate_words.proofs.Entries.{found_passes, kind_found}
use Rattle.migrate_words.proofs.RowFacts.{some_is}

-- a part that is refused refuses the whole, where the whole stands for nothing but what gives the part
pub refused_whole : {T U V W : Type 0} (seen : T → U) (see : V → W) (Part : U → Type 0) (Whole : W → Type 0)
    (error : WordsRefused) →
    ((w : W) → Whole w → (u : U) × Part u)
    → ReadsAs {T = T} seen Part (Err error) → ReadsAs {T = V} see Whole (Err error)
refused_whole seen see Part Whole (Words detail) gives refused = refused
refused_whole seen see Part Whole Number gives refused = λ w whole. let part = gives w whole in refused part.0 part.1
refused_whole seen see Part Whole OutOfMemory gives refused = tt

-- one more file with its text
pub one_more_text : (rows : List Row) (files : List OwnFile) (i : ℕ) (d : OwnFile) (texts : List Text) (text : Text)
    → i < length files →
    HaveTexts rows (argument_names (take i files)) texts → HasText rows (get_or files i d).name.now text →
    HaveTexts rows (argument_names (take (i + 1) files)) (texts ++ text ∷ [])
one_more_text rows files i d texts text within have has = grind (arith, common_steps, AllZip-push, map-append, take_more)

-- where all files have texts, each one has
pub text_of_file : (rows : List Row) (files : List OwnFile) (i : ℕ) (d : OwnFile) → i < length files → (texts : List Text)
    → HaveTexts rows (argument_names files) texts
    → (text : Text) × HasText rows (get_or files i d).name.now text
text_of_file rows (file ∷ files) zero d within (text ∷ texts) have = (text, have.0)
text_of_file rows (file ∷ files) (suc i) d within (text ∷ texts) have = text_of_file rows files i d (omega arith) texts have.1
text_of_file rows (file ∷ files) i d within [] have = absurd have
text_of_file rows [] i d within texts have = absurd (omega arith)

-- what stands for the same commands is read alike
pub same_reading : (P Q : Command → Type 0) → ((command : Command) → P command → Q command)
    → ((command : Command) → Q command → P command) →
    (read : Result Command WordsRefused) → ReadsAs (λ (command : Command). command) P read
    → ReadsAs (λ (command : Command). command) Q read
same_reading P Q there back (Ok command) reads = there command reads
same_reading P Q there back (Err (Words detail)) reads = reads
same_reading P Q there back (Err Number) reads = λ command holds. reads command (back command holds)
same_reading P Q there back (Err OutOfMemory) reads = tt

-- the command of the entry that a name finds is that of this name
pub kind_of_name : (name : Text) (kind : CommandKind) (rows : List Row)
    → find (λ k. bytes_eq (usage_of k).word name) kinds ≡ Some kind →
    (command : Command) → IsOfKind kind rows command → NamesCommand name rows command
kind_of_name name kind rows found command is =
    let passes = found_passes (λ k. bytes_eq (usage_of k).word name) kinds kind found in
    (ap (λ (k : CommandKind). (usage_of k).word) is.0 ∙ (bytes_eq-Decides (usage_of kind).word name).0 passes, is.1)

-- and the other way round
pub name_of_kind : (name : Text) (kind : CommandKind) (rows : List Row)
    → find (λ k. bytes_eq (usage_of k).word name) kinds ≡ Some kind →
    (command : Command) → NamesCommand name rows command → IsOfKind kind rows command
name_of_kind name kind rows found command names = grind (arith, common_steps, kind_found, some_is)
