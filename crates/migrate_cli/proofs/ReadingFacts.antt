-- Files read one after another.
use Rattle.std.proofs.lemmas.Grind.{common_steps}
use Rattle.std.proofs.Common.{◌≡◌, ℕ, ◌+◌, ◌≤◌, List, [], ◌∷◌, ◌++◌, length, refl, arith}
use Rattle.migrate_cli.specs.Reading.{Contents, File, IsReadOf, AreRead, counted, total_of, IsShort, AreShort, AreWithin}

-- as many texts are read as there are files
pub AreRead-length : (content : Contents) (files : List File) (texts : List (List ℕ)) → AreRead content files texts → length texts ≡ length files
AreRead-length content [] [] read = omega arith
AreRead-length content [] (t ∷ texts) read = absurd read
AreRead-length content (f ∷ files) [] read = absurd read
AreRead-length content (f ∷ files) (t ∷ texts) read = let e = AreRead-length content files texts read.1 in omega (arith, e)

-- one more file was read
pub AreRead-more : (content : Contents) (files : List File) (texts : List (List ℕ)) (file : File) (text : List ℕ) → AreRead content files texts
    → IsReadOf content file text → AreRead content (files ++ file ∷ []) (texts ++ text ∷ [])
AreRead-more content [] [] file text read next = (next, tt)
AreRead-more content [] (t ∷ texts) file text read next = absurd read
AreRead-more content (f ∷ files) [] file text read next = absurd read
AreRead-more content (f ∷ files) (t ∷ texts) file text read next = (read.0, AreRead-more content files texts file text read.1 next)

-- one more file is short enough
AreShort-more : (files : List File) (texts : List (List ℕ)) (file : File) (text : List ℕ) → AreShort files texts → IsShort file text
    → AreShort (files ++ file ∷ []) (texts ++ text ∷ [])
AreShort-more [] [] file text short next = (next, tt)
AreShort-more [] (t ∷ texts) file text short next = absurd short
AreShort-more (f ∷ files) [] file text short next = absurd short
AreShort-more (f ∷ files) (t ∷ texts) file text short next = (short.0, AreShort-more files texts file text short.1 next)

-- the bytes that count with one more text
pub total_of-more : (files : List File) (texts : List (List ℕ)) (file : File) (text : List ℕ) → AreShort files texts
    → total_of (files ++ file ∷ []) (texts ++ text ∷ []) ≡ total_of files texts + counted file text
total_of-more [] [] file text short = let e : total_of (file ∷ []) (text ∷ []) ≡ counted file text + 0 = refl in omega (arith, e)
total_of-more [] (t ∷ texts) file text short = absurd short
total_of-more (f ∷ files) [] file text short = absurd short
total_of-more (f ∷ files) (t ∷ texts) file text short = let e = total_of-more files texts file text short.1 in omega (arith, e)

-- one more text within the limits
pub AreWithin-more : (files : List File) (texts : List (List ℕ)) (file : File) (text : List ℕ) → AreWithin files texts → IsShort file text
    → total_of files texts + counted file text ≤ 67108864 → AreWithin (files ++ file ∷ []) (texts ++ text ∷ [])
AreWithin-more files texts file text within short together = record {
  each = AreShort-more files texts file text within.each short;
  together = let e = total_of-more files texts file text within.each in omega (arith, e, together);
}

-- the first of some texts that are short enough are
front_short : (content : Contents) (files more : List File) (texts others : List (List ℕ)) → AreRead content files texts →
    AreShort (files ++ more) (texts ++ others)
    → AreShort files texts
front_short content [] more [] others read short = tt
front_short content [] more (t ∷ texts) others read short = absurd read
front_short content (f ∷ files) more [] others read short = absurd read
front_short content (f ∷ files) more (t ∷ texts) others read short = (short.0, front_short content files more texts others read.1 short.1)

-- and have no more bytes that count
front_total : (content : Contents) (files more : List File) (texts others : List (List ℕ)) → AreRead content files texts
    → total_of files texts ≤ total_of (files ++ more) (texts ++ others)
front_total content [] more [] others read = omega arith
front_total content [] more (t ∷ texts) others read = absurd read
front_total content (f ∷ files) more [] others read = absurd read
front_total content (f ∷ files) more (t ∷ texts) others read =
    let rest : total_of files texts ≤ total_of (files ++ more) (texts ++ others) = front_total content files more texts others read.1 in omega (arith, rest)

-- the first of some texts within the limits are within them
pub within_front : (content : Contents) (files more : List File) (texts others : List (List ℕ)) → AreRead content files texts →
    AreWithin (files ++ more) (texts ++ others)
    → AreWithin files texts
within_front content files more texts others read h = grind (arith, common_steps, front_short, front_total)
