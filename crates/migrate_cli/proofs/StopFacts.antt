-- Where the reading of several files stands after one more.
use Rattle.std.proofs.lemmas.Grind.{common_steps}
use Rattle.std.proofs.Common.{◌≡◌, ℕ, zero, suc, ◌+◌, ◌<◌, List, [], ◌∷◌, ◌++◌, length, take, drop, map, get_or, Ok, Err, arith, ap, ◌∙◌, refl}
use Rattle.std.proofs.Common.{sym, subst, append-nil, append_assoc}
use Rattle.std.proofs.lemmas.List.{take_more, map-append}
use Rattle.migrate_cli.specs.Reading.{Contents, File, file_names, IsReadOf, AreRead, AreWithin, ReadUpTo, total_of, to_read}
use Rattle.migrate_cli.proofs.ReadingFacts.{AreRead-more, AreWithin-more, total_of-more, within_front}
use Rattle.store_edge.specs.Files.{ReadsSoFar}
use Rattle.migrate_cli.specs.steps.Stops.{KeptTexts, StopReads, StopsAt, IsFrontOf, HasAsked, IsNextText, MayRead, HasRead}
use Rattle.migrate_cli.specs.steps.Stops.MayRead.{none_yet, so_far}
use Rattle.migrate_cli.specs.declared.reading.Stop.{Stop}
use Rattle.migrate_cli.specs.declared.reading.Stop.TheVariants.{Fault, Long, Total, OutOfMemory}

-- what is read of a file goes by what it holds
pub IsReadOf-same : (content other : Contents) (file : File) (text : List ℕ) → content file.name ≡ other file.name → IsReadOf content file text →
    IsReadOf other file text
IsReadOf-same content other file text same read = grind (arith, common_steps)

-- so does why reading stops at it
pub StopsAt-same : (content other : Contents) (file : File) (before : ℕ) (stop : Stop) → content file.name ≡ other file.name
    → StopsAt content file before stop → StopsAt other file before stop
StopsAt-same content other file before stop same stops = grind (arith, common_steps)

-- the names asked for up to a file
abbrev up_to : (content : Contents) (files before after : List File) (texts : List (List ℕ)) (file : File) (asked : List (List ℕ)) →
    files ≡ before ++ file ∷ after
    → AreRead content before texts → AreWithin before texts → asked ≡ file.name ∷ [] → ReadUpTo (to_read content files) (file_names before ++ asked) texts file
up_to content files before after texts file asked files_are read within alone = record {
  before = before;
  after = after;
  files_are = files_are;
  asked_are = ap (λ more. file_names before ++ more) alone;
  read = read;
  within = within;
}

-- what is read of several files is nothing, or ends with what is read of the last one
data EndsRead (content : Contents) : List File → List (List ℕ) → Type 0 where
  nothing : EndsRead content [] []
  last : (files : List File) (texts : List (List ℕ)) (file : File) (text : List ℕ) → AreRead content files texts →
      EndsRead content (files ++ file ∷ []) (texts ++ text ∷ [])

one_before : {content : Contents} {files : List File} {texts : List (List ℕ)} (file : File) (text : List ℕ) → IsReadOf content file text →
    EndsRead content files texts
    → EndsRead content (file ∷ files) (text ∷ texts)
one_before file text read nothing = last [] [] file text tt
one_before file text read (last files texts end end_text rest) = last (file ∷ files) (text ∷ texts) end end_text (read, rest)

ends_read : (content : Contents) (files : List File) (texts : List (List ℕ)) → AreRead content files texts → EndsRead content files texts
ends_read content [] [] read = nothing
ends_read content [] (t ∷ texts) read = absurd read
ends_read content (f ∷ files) [] read = absurd read
ends_read content (f ∷ files) (t ∷ texts) read = one_before f t read.0 (ends_read content files texts read.1)

-- the name of the last file
file_names-more : (files : List File) (file : File) → file_names (files ++ file ∷ []) ≡ file_names files ++ file.name ∷ []
file_names-more files file = map-append (λ (f : File). f.name) files (file ∷ [])

-- where the first files were read within the limits memory may run out
from_end : {content : Contents} {before : List File} {texts : List (List ℕ)} (files after : List File) → files ≡ before ++ after → AreWithin before texts
    → EndsRead content before texts → MayRead content files (file_names before)
from_end files after files_are within nothing = none_yet
from_end {content} files after files_are within (last before texts file text read) =
    so_far (file_names (before ++ file ∷ [])) texts file (record {
      before = before;
      after = after;
      files_are = files_are ∙ append_assoc before (file ∷ []) after;
      asked_are = file_names-more before file;
      read = read;
      within = within_front content before (file ∷ []) texts (text ∷ []) read within;
    })

pub read_so_far : (content : Contents) (files before after : List File) (texts : List (List ℕ)) → files ≡ before ++ after →
    AreRead content before texts → AreWithin before texts
    → MayRead content files (file_names before)
read_so_far content files before after texts files_are read within = from_end files after files_are within (ends_read content before texts read)

-- and so it may in the next read, before or after its name counts as asked for
may_read : (content : Contents) (files before after : List File) (texts : List (List ℕ)) (file : File) (asked : List (List ℕ)) → files ≡ before ++ file ∷ after
    → AreRead content before texts → AreWithin before texts → IsFrontOf (file.name ∷ []) asked → MayRead content files (file_names before ++ asked)
may_read content files before after texts file [] files_are read within front =
    subst (MayRead content files) (sym (append-nil (file_names before))) (read_so_far content files before (file ∷ after) texts files_are read within)
may_read content files before after texts file (n ∷ []) files_are read within front =
    let same : file.name ≡ n = cc front.all_are in
    so_far (file_names before ++ n ∷ []) texts file (up_to content files before after texts file (n ∷ []) files_are read within (ap (λ x. x ∷ []) (sym same)))
may_read content files before after texts file (n ∷ m ∷ more) files_are read within front = absurd (cc front.all_are)

-- the reading of several files stops where that of one of them does
pub stops_among : (content : Contents) (files before after : List File) (texts : List (List ℕ)) (file : File) (old now new : List (List ℕ)) (stop : Stop)
    → files ≡ before ++ file ∷ after → AreRead content before texts → AreWithin before texts → now ≡ old ++ file_names before
    → StopsAt content file (total_of before texts) stop → HasAsked {A = Unit {0}} file.name now new (Err stop)
    → HasRead (to_read content files) old new (Err stop)
stops_among content files before after texts file old now new (Fault name) files_are read within now_is stops asks = record {
  asked = file_names before ++ asks.asked;
  asked_is = asks.asked_is ∙ ap (λ some. some ++ asks.asked) now_is ∙ append_assoc old (file_names before) asks.asked;
  reads = record {
    texts = texts;
    file = file;
    up_to = up_to content files before after texts file asks.asked files_are read within asks.asks_for;
    stops = stops;
  };
}
stops_among content files before after texts file old now new (Long name) files_are read within now_is stops asks = record {
  asked = file_names before ++ asks.asked;
  asked_is = asks.asked_is ∙ ap (λ some. some ++ asks.asked) now_is ∙ append_assoc old (file_names before) asks.asked;
  reads = record {
    texts = texts;
    file = file;
    up_to = up_to content files before after texts file asks.asked files_are read within asks.asks_for;
    stops = stops;
  };
}
stops_among content files before after texts file old now new (Total number) files_are read within now_is stops asks = record {
  asked = file_names before ++ asks.asked;
  asked_is = asks.asked_is ∙ ap (λ some. some ++ asks.asked) now_is ∙ append_assoc old (file_names before) asks.asked;
  reads = record {
    texts = texts;
    file = file;
    up_to = up_to content files before after texts file asks.asked files_are read within asks.asks_for;
    stops = stops;
  };
}
stops_among content files before after texts file old now new OutOfMemory files_are read within now_is stops asks = record {
  asked = file_names before ++ asks.asked;
  asked_is = asks.asked_is ∙ ap (λ some. some ++ asks.asked) now_is ∙ append_assoc old (file_names before) asks.asked;
  reads = may_read content files before after texts file asks.asked files_are read within asks.asks_for;
}

-- an element is the same whatever would stand for none
pub element : {A : Type 0} (xs : List A) (i : ℕ) (d e : A) → i < length xs → get_or xs i d ≡ get_or xs i e
element [] i d e within = absurd (omega arith)
element (x ∷ xs) zero d e within = refl
element (x ∷ xs) (suc i) d e within = element xs i d e (omega arith)

-- a mapped list round one of its elements
around : {A B : Type 0} (f : A → B) (xs : List A) (i : ℕ) (x : A) → i < length xs → x ≡ get_or xs i x
    → map f xs ≡ map f (take i xs) ++ f x ∷ map f (drop (suc i) xs)
around f [] i x within at = absurd (omega arith)
around f (y ∷ ys) zero x within at = ap (λ z. f z ∷ map f ys) (sym at)
around f (y ∷ ys) (suc i) x within at = ap (λ zs. f y ∷ zs) (around f ys i x (omega arith) at)

pub map_around : {A B : Type 0} (f : A → B) (xs : List A) (i : ℕ) (x : A) → i < length xs → x ≡ get_or xs i x
    → map f xs ≡ map f (take i xs) ++ f x ∷ map f (drop (i + 1) xs)
map_around f xs i x within at = grind (arith, common_steps, around)

-- one more element of a mapped list
pub map_take_more : {A B : Type 0} (f : A → B) (xs : List A) (i : ℕ) (x : A) → i < length xs → x ≡ get_or xs i x
    → map f (take (i + 1) xs) ≡ map f (take i xs) ++ f x ∷ []
map_take_more f xs i x within at = grind (arith, common_steps, map-append, take_more)

-- one more file among several was read
pub read_more : (content other : Contents) (files : List File) (file : File) (before after : KeptTexts) → other file.name ≡ content file.name →
    AreRead content files before.all
    → IsNextText other file before after → AreRead content (files ++ file ∷ []) after.all
read_more content other files file before after same read next = grind (arith, common_steps, AreRead-more)

-- within the limits
pub within_more : (other : Contents) (files : List File) (file : File) (before after : KeptTexts) → before.counted ≡ total_of files before.all →
    AreWithin files before.all
    → IsNextText other file before after → AreWithin (files ++ file ∷ []) after.all
within_more other files file before after is within next =
    subst (AreWithin (files ++ file ∷ [])) (sym next.last)
    (AreWithin-more files before.all file next.text within next.short (omega (arith, is, next.more, next.together)))

-- with its bytes that count
pub counted_more : (other : Contents) (files : List File) (file : File) (before after : KeptTexts) → before.counted ≡ total_of files before.all →
    AreWithin files before.all
    → IsNextText other file before after → after.counted ≡ total_of (files ++ file ∷ []) after.all
counted_more other files file before after is within next = grind (arith, common_steps, total_of-more)

-- and its name was asked for
pub asked_more : (files : List File) (file : File) (old now new : List (List ℕ)) → now ≡ old ++ file_names files
    → HasAsked {A = Unit {0}} file.name now new (Ok tt) → new ≡ old ++ file_names (files ++ file ∷ [])
asked_more files file old now new now_is asks = grind (arith, common_steps, file_names-more)

-- what holds of the reads since a moment holds since an earlier one after which none failed
pub stop_reads : (stop : Stop) (first then' latest : ReadsSoFar) → then'.faults ≡ first.faults → then'.failed_at ≡ first.failed_at →
    StopReads stop then' latest → StopReads stop first latest
stop_reads stop first then' latest same since failed = grind (arith, common_steps)
