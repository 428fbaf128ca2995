-- The words of a line as they are printed, byte by byte and by its pieces between blanks.
use Rattle.std.proofs.lemmas.Bool.{eqb-true}
use Rattle.std.proofs.lemmas.Bool.Decides.{nat_tests}
use Rattle.std.proofs.Common.{◌≡◌, ◌+◌, ℕ, suc, arith, Bool, true, false, ◌&&◌, ◌||◌, List, [], ◌∷◌, ◌++◌, cond, drop, filter, length, map, nat_eq, nat_lt, not, refl, sym, ap, ◌∙◌}
use Rattle.std.specs.List.{onto_first, prefix_len, slice_split}
use Rattle.net_addr.specs.Blanks.{is_blank}
use Rattle.printed_lines.specs.Words.{spaced}
use Rattle.text_survey.specs.Oddities.{behind_blanks, is_control}
use Rattle.text_survey.specs.SeenWords.{seen_byte, seen_word, seen_words}
use Rattle.text_survey.specs.steps.SeenBytes.{are_as_seen, fits, seen_from}

-- ---- byte by byte, and by pieces ----

abbrev holds : List ℕ → Bool
holds piece = nat_lt 0 (length piece)

-- what is printed of pieces, the first of which goes on with a word or not
abbrev of_pieces : Bool → List (List ℕ) → List ℕ
of_pieces false pieces = spaced (map seen_word (filter holds pieces))
of_pieces true [] = []
of_pieces true (piece ∷ pieces) = seen_word piece ++ spaced (map seen_word (filter holds pieces))

some_bytes : (b : ℕ) (bs : List ℕ) → holds (b ∷ bs) ≡ true
some_bytes b bs = grind (arith, nat_tests)

-- a blank ends a piece
blank_on : (inside : Bool) (pieces : List (List ℕ)) → of_pieces false pieces ≡ of_pieces inside ([] ∷ pieces)
blank_on true pieces = refl
blank_on false pieces = refl

-- another byte goes on with one, or begins one
byte_on : (inside : Bool) (b : ℕ) (pieces : List (List ℕ)) →
    ((cond inside [] (32 ∷ [])) ++ seen_byte b ∷ []) ++ of_pieces true pieces ≡ of_pieces inside (onto_first b pieces)
byte_on true b [] = refl
byte_on true b (piece ∷ pieces) = refl
byte_on false b [] = ap (λ (t : Bool). spaced (map seen_word (cond t ((b ∷ []) ∷ []) []))) (sym (some_bytes b []))
byte_on false b (piece ∷ pieces) =
    ap (λ (t : Bool). spaced (map seen_word (cond t ((b ∷ piece) ∷ filter holds pieces) (filter holds pieces)))) (sym (some_bytes b piece))

none_seen : (inside : Bool) → [] ≡ of_pieces inside ([] ∷ [])
none_seen true = refl
none_seen false = refl

by_pieces : (inside : Bool) (bytes : List ℕ) → seen_from inside bytes ≡ of_pieces inside (slice_split is_blank bytes)
by_pieces inside [] = none_seen inside
by_pieces inside (b ∷ bs) = cases (is_blank b) (by_pieces true bs) (by_pieces false bs)
  where
    cases : (t : Bool) → seen_from true bs ≡ of_pieces true (slice_split is_blank bs) →
        seen_from false bs ≡ of_pieces false (slice_split is_blank bs) →
        cond t [] ((cond inside [] (32 ∷ [])) ++ seen_byte b ∷ []) ++ seen_from (not t) bs
        ≡ of_pieces inside (cond t ([] ∷ slice_split is_blank bs) (onto_first b (slice_split is_blank bs)))
    cases true on off = off ∙ blank_on inside (slice_split is_blank bs)
    cases false on off =
        ap (λ (s : List ℕ). ((cond inside [] (32 ∷ [])) ++ seen_byte b ∷ []) ++ s) on ∙ byte_on inside b (slice_split is_blank bs)

-- the words of some bytes, byte by byte
pub words_seen : (bytes : List ℕ) → seen_from false bytes ≡ spaced (seen_words bytes)
words_seen bytes = by_pieces false bytes

-- blanks at the beginning are of no word
pub blanks_unseen : (bytes : List ℕ) → seen_from false (behind_blanks bytes) ≡ seen_from false bytes
blanks_unseen [] = refl
blanks_unseen (b ∷ bs) = cases (is_blank b) refl (blanks_unseen bs)
  where
    cases : (t : Bool) → is_blank b ≡ t → seen_from false (behind_blanks bs) ≡ seen_from false bs →
        seen_from false (drop (cond t (1 + prefix_len is_blank bs) 0) (b ∷ bs)) ≡ seen_from false (b ∷ bs)
    cases true is rest =
        let one : 1 + prefix_len is_blank bs ≡ suc (prefix_len is_blank bs) = omega arith in
        ap (λ (n : ℕ). seen_from false (drop n (b ∷ bs))) one
        ∙ rest ∙ sym (ap (λ (u : Bool). cond u [] (32 ∷ seen_byte b ∷ []) ++ seen_from (not u) bs) is)
    cases false is rest = refl

-- ---- bytes that stand as they are printed ----

-- a byte that can be seen is no blank
or_left : (a c : Bool) → (a || c) ≡ false → a ≡ false
or_left true c h = cc
or_left false c h = refl

no_tab : (b : ℕ) → nat_lt b 32 ≡ false → nat_eq b 9 ≡ false
no_tab b seen = grind (arith, nat_tests)

seen_so : (b : ℕ) → nat_eq b 32 ≡ false → is_control b ≡ false → is_blank b ≡ false
seen_so b other seen = ap (λ (u : Bool). u || nat_eq b 9) other ∙ no_tab b (or_left (nat_lt b 32) (nat_eq b 127) seen)

-- what stands before them, where a word has to begin or goes on
abbrev opening : Bool → List ℕ
opening begins = cond begins (32 ∷ []) []

and_left : (a c : Bool) → (a && c) ≡ true → a ≡ true
and_left true c h = refl
and_left false c h = h

and_right : (a c : Bool) → (a && c) ≡ true → c ≡ true
and_right true c h = h
and_right false c h = cc

not_so : (a : Bool) → not a ≡ true → a ≡ false
not_so true h = sym h
not_so false h = refl

opened : (begins : Bool) (b : ℕ) (bs : List ℕ) → ((cond (not begins) [] (32 ∷ [])) ++ b ∷ []) ++ bs ≡ opening begins ++ b ∷ bs
opened true b bs = refl
opened false b bs = refl

byte_as_seen : (begins : Bool) (b : ℕ) (bs : List ℕ) (space : Bool) → nat_eq b 32 ≡ space → (fits begins b && are_as_seen space bs) ≡ true →
    (are_as_seen space bs ≡ true → seen_from (not space) bs ≡ opening space ++ bs) → seen_from (not begins) (b ∷ bs) ≡ opening begins ++ b ∷ bs
byte_as_seen true b bs true e is rest =
    let never : fits true b ≡ false = ap (λ (u : Bool). cond u false (not (is_control b))) e in
    let no : false ≡ true = sym (ap (λ (u : Bool). u && are_as_seen true bs) never) ∙ is in
    cc
byte_as_seen false b bs true e is rest =
    let space : b ≡ 32 = eqb-true b 32 e in
    ap (λ (x : ℕ). seen_from true (x ∷ bs)) space
    ∙ rest (and_right (fits false b) (are_as_seen true bs) is) ∙ ap (λ (x : ℕ). x ∷ bs) (sym space)
byte_as_seen begins b bs false e is rest =
    let fit : fits begins b ≡ true = and_left (fits begins b) (are_as_seen false bs) is in
    let seen : is_control b ≡ false =
    not_so (is_control b) (sym (ap (λ (u : Bool). cond u (not begins) (not (is_control b))) e) ∙ fit) in
    ap (λ (u : Bool). cond u [] ((cond (not begins) [] (32 ∷ [])) ++ seen_byte b ∷ []) ++ seen_from (not u) bs) (seen_so b e seen)
    ∙ ap (λ (u : Bool). ((cond (not begins) [] (32 ∷ [])) ++ cond u 63 b ∷ []) ++ seen_from true bs) seen
    ∙ ap (λ (s : List ℕ). ((cond (not begins) [] (32 ∷ [])) ++ b ∷ []) ++ s) (rest (and_right (fits begins b) (are_as_seen false bs) is))
    ∙ opened begins b bs

none_as_seen : (begins : Bool) → not begins ≡ true → [] ≡ opening begins ++ []
none_as_seen true is = cc
none_as_seen false is = refl

as_seen : (begins : Bool) (bytes : List ℕ) → are_as_seen begins bytes ≡ true → seen_from (not begins) bytes ≡ opening begins ++ bytes
as_seen begins [] is = none_as_seen begins is
as_seen begins (b ∷ bs) is = byte_as_seen begins b bs (nat_eq b 32) refl is (as_seen (nat_eq b 32) bs)

-- words that stand as they are printed, behind blanks
pub words_stand : (bytes : List ℕ) → are_as_seen true (behind_blanks bytes) ≡ true → 32 ∷ behind_blanks bytes ≡ spaced (seen_words bytes)
words_stand bytes is =
    sym (as_seen true (behind_blanks bytes) is) ∙ blanks_unseen bytes ∙ words_seen bytes
