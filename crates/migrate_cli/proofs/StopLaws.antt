-- Where the files up to one are told, reading stops at it or it doesn't.
use Rattle.std.proofs.lemmas.Grind.{common_steps}
use Rattle.std.proofs.Common.{◌≡◌, ℕ, ◌+◌, ◌<◌, ◌≤◌, List, [], ◌∷◌, ◌++◌, Option, IsSome, IfSome, length, take, All, refl, sym, ap, subst, ◌∙◌}
use Rattle.std.proofs.Common.{append_assoc, arith}
use Rattle.std.proofs.lemmas.List.{map-append}
use Rattle.std.proofs.lemmas.List.Elements.{All-head, All-tail, All-cons, All-contains, Contains-append_right}
use Rattle.net_model.proofs.Members.{Contains-first}
use Rattle.migration_report.specs.declared.outcome.Outcome.{Outcome}
use Rattle.migration_report.specs.declared.outcome.Outcome.TheVariants.{Refused}
use Rattle.migration_report.specs.declared.refusal.Refusal.TheVariants.{Length, Total}
use Rattle.migrate_cli.specs.AnswerLaws.{IsFileTold}
use Rattle.migrate_cli.specs.Reading.{Contents, File, file_names, IsReadOf, AreRead, counted, total_of, IsShort, AreShort, AreWithin}
use Rattle.migrate_cli.specs.steps.Stops.{IsFrontOf}
use Rattle.migrate_cli.proofs.ReadingFacts.{AreRead-more, total_of-more, within_front}
use Rattle.migrate_cli.proofs.FileFacts.{All-mapped}

-- what holds of each element holds of each of the first ones
All-front : {X : Type 0} (P : X → Type 0) (xs ys : List X) → All P (xs ++ ys) → All P xs
All-front P [] ys all = λ k d within. absurd (omega (arith, within))
All-front P (x ∷ xs) ys all = All-cons P x xs (All-head P x (xs ++ ys) all) (All-front P xs ys (All-tail P x (xs ++ ys) all))

-- what the file holds is told
abbrev pub IsToldOf : Contents → File → Type 0
IsToldOf content file = IsFileTold content file.name

-- the files whose names are told are told
pub told_files : (content : Contents) (files : List File) → All (IsFileTold content) (file_names files) → All (IsToldOf content) files
told_files content files tell = All-mapped (IsFileTold content) (λ (file : File). file.name) files tell

-- also up to one of them
pub told_up_to : (content : Contents) (before : List File) (file : File) (asked : List (List ℕ)) → asked ≡ file_names before ++ file.name ∷ []
    → All (IsFileTold content) asked → All (IsToldOf content) (before ++ file ∷ [])
told_up_to content before file asked asked_are tell = grind (arith, common_steps, map-append, told_files)

-- ---- limits ----

-- the last of texts that are short enough is
last_short : (files : List File) (texts : List (List ℕ)) (file : File) (text : List ℕ) → length texts ≡ length files →
    AreShort (files ++ file ∷ []) (texts ++ text ∷ [])
    → IsShort file text
last_short [] [] file text same short = short.0
last_short [] (t ∷ texts) file text same short = absurd (omega (arith, same))
last_short (f ∷ files) [] file text same short = absurd (omega (arith, same))
last_short (f ∷ files) (t ∷ texts) file text same short = last_short files texts file text (omega (arith, same)) short.1

-- a longer file breaks the limit of each
pub long_breaks : (files : List File) (texts : List (List ℕ)) (file : File) (text : List ℕ) → length texts ≡ length files → file.most < length text
    → AreWithin (files ++ file ∷ []) (texts ++ text ∷ []) → ⊥
long_breaks files texts file text same above h = grind (arith, common_steps, last_short)

-- more bytes break the limit of all
pub total_breaks : (files : List File) (texts : List (List ℕ)) (file : File) (text : List ℕ) (number : ℕ) → AreShort files texts →
    number ≡ total_of files texts + counted file text
    → 67108864 < number → AreWithin (files ++ file ∷ []) (texts ++ text ∷ []) → ⊥
total_breaks files texts file text number short is above h = grind (arith, common_steps, total_of-more)

-- ---- what is read ----

told : (o : Option (List ℕ)) (n : ℕ) (t s : List ℕ) → IsSome o → IfSome o (λ whole. t ≡ take n whole) → IfSome o (λ whole. s ≡ take n whole) → t ≡ s
told o n t s some a b = grind (arith, common_steps)

-- files whose first ones are these, with the next one
data AreFronts (b c : List File) (n m : File) : Type 0 where
  same : b ≡ c → n ≡ m → AreFronts b c n m
  first : (rest : List File) → c ≡ b ++ n ∷ rest → AreFronts b c n m
  second : (rest : List File) → b ≡ c ++ m ∷ rest → AreFronts b c n m

longer_fronts : (x y : File) (b c : List File) (n m : File) → x ≡ y → AreFronts b c n m → AreFronts (x ∷ b) (y ∷ c) n m
longer_fronts x y b c n m e (same s t) = same (λ i. e i ∷ s i) t
longer_fronts x y b c n m e (first rest s) = first rest (λ i. sym e i ∷ s i)
longer_fronts x y b c n m e (second rest s) = second rest (λ i. e i ∷ s i)

fronts : (b c : List File) (n m : File) (d e : List File) → b ++ n ∷ d ≡ c ++ m ∷ e → AreFronts b c n m
fronts [] [] n m d e is = same refl (cc is)
fronts [] (x ∷ c) n m d e is = let head : x ≡ n = cc is in first c (ap (λ y. y ∷ c) head)
fronts (x ∷ b) [] n m d e is = let head : x ≡ m = cc is in second b (ap (λ y. y ∷ b) head)
fronts (x ∷ b) (y ∷ c) n m d e is =
    let head : x ≡ y = cc is in
    let rest : b ++ n ∷ d ≡ c ++ m ∷ e = cc is in
    longer_fronts x y b c n m head (fronts b c n m d e rest)

-- files that were read, one more that breaks a limit, and their texts
pub record Broken : Type 0 where
  pub before : List File
  pub file : File
  pub texts : List (List ℕ)
  pub text : List ℕ

abbrev pub broken_at : List File → File → List (List ℕ) → List ℕ → Broken
broken_at before file texts text = record { before = before; file = file; texts = texts; text = text }

-- the files before one were read and are within the limits, and with it they aren't
pub record StopsAfter (content : Contents) (files : List File) (at : Broken) : Type 0 where
  pub after : List File
  pub files_are : files ≡ at.before ++ at.file ∷ after
  pub read : AreRead content at.before at.texts
  pub next : IsReadOf content at.file at.text
  pub within : AreWithin at.before at.texts
  pub broken : AreWithin (at.before ++ at.file ∷ []) (at.texts ++ at.text ∷ []) → ⊥

-- which limit that file breaks, and what the call comes to
pub data IsBrokenSo (at : Broken) : Outcome → Type 0 where
  too_long : at.file.most < length at.text → IsBrokenSo at (Refused (Length at.file.name))
  too_many : (number : ℕ) → IsShort at.file at.text → number ≡ total_of at.before at.texts + counted at.file at.text →
      IsBrokenSo at (Refused (Total number))

short_not_long : (file : File) (text : List ℕ) → file.most < length text → IsShort file text → ⊥
short_not_long file text above short = let most : length text ≤ file.most = short in omega (arith, above, most)

one_limit : (at : Broken) {one other : Outcome} → IsBrokenSo at one → IsBrokenSo at other → one ≡ other
one_limit at it_1 it_2 = grind (arith, common_steps, short_not_long)

module _ (content : Contents) where
  -- one text is read of a file that is told
  one_text : (file : File) (t s : List ℕ) → IsToldOf content file → IsReadOf content file t → IsReadOf content file s → t ≡ s
  one_text file t s tells a b = told (content file.name) (file.most + 1) t s tells a.told b.told

  -- and of several files one list of texts
  pub one_list : (files : List File) (ts ss : List (List ℕ)) → All (IsToldOf content) files → AreRead content files ts → AreRead content files ss → ts ≡ ss
  one_list [] [] [] tell a b = refl
  one_list [] [] (s ∷ ss) tell a b = absurd b
  one_list [] (t ∷ ts) ss tell a b = absurd a
  one_list (n ∷ files) [] ss tell a b = absurd a
  one_list (n ∷ files) (t ∷ ts) [] tell a b = absurd b
  one_list (n ∷ files) (t ∷ ts) (s ∷ ss) tell a b =
      let first : t ≡ s = one_text n t s (All-head (IsToldOf content) n files tell) a.0 b.0 in
      let rest : ts ≡ ss = one_list files ts ss (All-tail (IsToldOf content) n files tell) a.1 b.1 in
      λ i. first i ∷ rest i

  -- the first of files that are told are told
  pub told_with : (before : List File) (file : File) (rest : List File) → All (IsToldOf content) (before ++ file ∷ rest)
      → All (IsToldOf content) (before ++ file ∷ [])
  told_with before file rest tell =
      All-front (IsToldOf content) (before ++ file ∷ []) rest (subst (All (IsToldOf content)) (sym (append_assoc before (file ∷ []) rest)) tell)

  -- what is read of the first files stands first in what is read of all
  front_read : (before : List File) (file : File) (rest : List File) (texts : List (List ℕ)) (text : List ℕ) (all : List (List ℕ))
      → All (IsToldOf content) (before ++ file ∷ []) → AreRead content before texts → IsReadOf content file text → AreRead content (before ++ file ∷ rest) all
      → IsFrontOf all (texts ++ text ∷ [])
  front_read [] file rest [] text [] tell a next b = absurd b
  front_read [] file rest [] text (t ∷ all) tell a next b =
      let first : t ≡ text = one_text file t text (All-head (IsToldOf content) file [] tell) b.0 next in
      record { rest = all; all_are = ap (λ some. some ∷ all) first }
  front_read [] file rest (t ∷ texts) text all tell a next b = absurd a
  front_read (n ∷ before) file rest [] text all tell a next b = absurd a
  front_read (n ∷ before) file rest (s ∷ texts) text [] tell a next b = absurd b
  front_read (n ∷ before) file rest (s ∷ texts) text (t ∷ all) tell a next b =
      let front = front_read before file rest texts text all (All-tail (IsToldOf content) n (before ++ file ∷ []) tell) a.1 next b.1 in
      let first : t ≡ s = one_text n t s (All-head (IsToldOf content) n (before ++ file ∷ []) tell) b.0 a.0 in
      let all_are = front.all_are in
      record { rest = front.rest; all_are = λ i. first i ∷ all_are i }

  -- one more file was read
  read_with : (before : List File) (file : File) (texts : List (List ℕ)) (text : List ℕ) → AreRead content before texts → IsReadOf content file text
      → AreRead content (before ++ file ∷ []) (texts ++ text ∷ [])
  read_with before file texts text read next = AreRead-more content before texts file text read next

  -- nothing is read within the limits past the file that breaks one
  pub none_past : (files before : List File) (file : File) (texts : List (List ℕ)) (text : List ℕ) (rest : List File) (all : List (List ℕ))
      → StopsAfter content files (broken_at before file texts text)
      → All (IsToldOf content) (before ++ file ∷ []) → AreRead content (before ++ file ∷ rest) all
      → AreWithin (before ++ file ∷ rest) all → ⊥
  none_past files before file texts text rest all stop tell read within =
      let front = front_read before file rest texts text all tell stop.read stop.next read in
      let with_it = read_with before file texts text stop.read stop.next in
      let whole = subst (AreWithin (before ++ file ∷ rest)) front.all_are within in
      let parted = subst (λ some. AreWithin some ((texts ++ text ∷ []) ++ front.rest)) (sym (append_assoc before (file ∷ []) rest)) whole in
      stop.broken (within_front content (before ++ file ∷ []) rest (texts ++ text ∷ []) front.rest with_it parted)

  module _ (files b c : List File) (n m : File) (tell : All (IsToldOf content) (b ++ n ∷ [])) (ts ss : List (List ℕ)) (t s : List ℕ)
      (one : StopsAfter content files (broken_at b n ts t)) (other : StopsAfter content files (broken_at c m ss s)) where
    told_before : All (IsToldOf content) b
    told_before = All-front (IsToldOf content) b (n ∷ []) tell

    told_there : IsToldOf content n
    told_there = All-contains (IsToldOf content) (b ++ n ∷ []) n tell (Contains-append_right b (n ∷ []) n (Contains-first n []))

    -- reading stops at one file
    pub same_place : (b ≡ c) × (n ≡ m)
    same_place =
        elim (fronts b c n m one.after other.after (sym one.files_are ∙ other.files_are)) [
          | same d e ↦ (d, e)
          | first rest d ↦ absurd (none_past files b n ts t rest ss one tell (subst (λ some. AreRead content some ss) d other.read)
              (subst (λ some. AreWithin some ss) d other.within))
          | second rest d ↦ absurd (none_past files c m ss s rest ts other (told_with c m rest (subst (All (IsToldOf content)) d told_before))
              (subst (λ some. AreRead content some ts) d one.read) (subst (λ some. AreWithin some ts) d one.within))
        ]

    same_texts : ts ≡ ss
    same_texts = one_list b ts ss told_before one.read (subst (λ some. AreRead content some ss) (sym same_place.0) other.read)

    same_next : t ≡ s
    same_next = one_text n t s told_there one.next (subst (λ some. IsReadOf content some s) (sym same_place.1) other.next)

    -- and for one reason
    pub same_limit : {told retold : Outcome} → IsBrokenSo (broken_at b n ts t) told → IsBrokenSo (broken_at c m ss s) retold → told ≡ retold
    same_limit {retold = retold} here there =
        let place = same_place in
        let texts = same_texts in
        let next = same_next in
        let at : broken_at b n ts t ≡ broken_at c m ss s = λ i. broken_at (place.0 i) (place.1 i) (texts i) (next i) in
        one_limit (broken_at b n ts t) here (subst (λ (some : Broken). IsBrokenSo some retold) (sym at) there)
