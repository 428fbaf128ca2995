-- The words of some bytes, cut off one after the other.
use Rattle.std.proofs.lemmas.Grind.{common_steps}
use Rattle.std.proofs.Common.{◌≡◌, ℕ, zero, suc, ◌+◌, ◌-◌, ◌<◌, ◌≤◌, ◌⊎◌, inl, inr, ⊎_elim, Bool, true, false, not, cond, ◌&&◌, ◌||◌}
use Rattle.std.proofs.Common.{eqb, List, [], ◌∷◌, ◌++◌, get_or}
use Rattle.std.proofs.Common.{length, take, drop, filter, refl, sym, ap, subst, ◌∙◌, arith}
use Rattle.std.specs.Prelude.{nat_lt, nat_eq, bytes_eq}
use Rattle.std.specs.List.{list_any, slice_split, position_or_len, prefix_len, onto_first, starts_with}
use Rattle.std.proofs.lemmas.Bool.{cases_lt, or_parts}
use Rattle.std.proofs.lemmas.Bool.Decides.{nat_tests}
use Rattle.std.proofs.lemmas.List.{take_all, drop_all, length-drop, get_or-drop, drop-drop}
use Rattle.std.proofs.lemmas.Option.{unwrap_or-slice_get}
use Rattle.std.proofs.lemmas.List.Elements.{filter-append}
use Rattle.std.proofs.lemmas.List.Folds.{length-prefix_len}
use Rattle.std.proofs.lemmas.List.Splits.{slice_split_first}
use Rattle.net_addr.specs.Blanks.{is_blank, indent_of, words_in}
use Rattle.net_addr.proofs.PieceFacts.{no_separator}
use Rattle.ios_lines.specs.Words.{Word, word_at}
use Rattle.ios_lines.specs.Blanks.{without_blanks}
use Rattle.ios_lines.specs.steps.WordEnds.{is_low}

-- the blanks that some bytes begin with are dropped by their count
blanks_dropped : (bytes : List ℕ) → drop (prefix_len is_blank bytes) bytes ≡ without_blanks bytes
blanks_dropped [] = refl
blanks_dropped (b ∷ bs) = cases (is_blank b) (blanks_dropped bs)
  where
    cases : (t : Bool) → drop (prefix_len is_blank bs) bs ≡ without_blanks bs →
        drop (cond t (1 + prefix_len is_blank bs) 0) (b ∷ bs) ≡ cond t (without_blanks bs) (b ∷ bs)
    cases true rest =
        let next : 1 + prefix_len is_blank bs ≡ suc (prefix_len is_blank bs) = omega arith in
        ap (λ (n : ℕ). drop n (b ∷ bs)) next ∙ rest
    cases false rest = refl

-- all that is left behind the blanks
pub blanks_cut : (bytes : List ℕ) (n : ℕ) → n ≡ prefix_len is_blank bytes → take (length bytes - n) (drop n bytes) ≡ without_blanks bytes
blanks_cut bytes n count = grind (arith, common_steps, blanks_dropped, length-drop, take_all)

-- whether a piece holds a byte
abbrev holds : Word → Bool
holds piece = nat_lt 0 (length piece)

-- blanks at the beginning are no words
pub words_behind : (bytes : List ℕ) → words_in bytes ≡ words_in (without_blanks bytes)
words_behind [] = refl
words_behind (b ∷ bs) = cases (is_blank b) refl (words_behind bs)
  where
    cases : (t : Bool) → is_blank b ≡ t → words_in bs ≡ words_in (without_blanks bs) →
        words_in (b ∷ bs) ≡ words_in (cond t (without_blanks bs) (b ∷ bs))
    cases true e rest = ap (λ (u : Bool). filter holds (cond u ([] ∷ slice_split is_blank bs) (onto_first b (slice_split is_blank bs)))) e ∙ rest
    cases false e rest = refl

-- behind them no further blanks stand
pub none_behind : (bytes : List ℕ) → without_blanks (without_blanks bytes) ≡ without_blanks bytes
none_behind [] = refl
none_behind (b ∷ bs) = cases (is_blank b) refl (none_behind bs)
  where
    cases : (t : Bool) → is_blank b ≡ t → without_blanks (without_blanks bs) ≡ without_blanks bs →
        without_blanks (cond t (without_blanks bs) (b ∷ bs)) ≡ cond t (without_blanks bs) (b ∷ bs)
    cases true e rest = rest
    cases false e rest = ap (λ (u : Bool). cond u (without_blanks bs) (b ∷ bs)) e

-- how many they are
pub blanks_counted : (bytes : List ℕ) → length (without_blanks bytes) + indent_of bytes ≡ length bytes
blanks_counted [] = refl
blanks_counted (b ∷ bs) = grind (arith, common_steps, blanks_counted bs)

-- then no byte is left, or a word begins
begins : (bytes : List ℕ) → (without_blanks bytes ≡ []) ⊎ (0 < position_or_len is_blank (without_blanks bytes))
begins [] = inl refl
begins (b ∷ bs) = cases (is_blank b) refl (begins bs)
  where
    cases : (t : Bool) → is_blank b ≡ t → (without_blanks bs ≡ []) ⊎ (0 < position_or_len is_blank (without_blanks bs)) →
        (cond t (without_blanks bs) (b ∷ bs) ≡ []) ⊎ (0 < position_or_len is_blank (cond t (without_blanks bs) (b ∷ bs)))
    cases true e rest = rest
    cases false e rest = inr (rw e (omega arith))

abbrev pub place : List ℕ → ℕ
place bytes = position_or_len is_blank bytes

-- the first byte that is a space or a control character below it is the first blank, where it is a space
low_len : (bytes : List ℕ) → get_or bytes (position_or_len is_low bytes) 32 ≡ 32 →
    position_or_len is_blank bytes ≡ position_or_len is_low bytes
low_len [] e = refl
low_len (b ∷ bs) e = cases (is_low b) refl (low_len bs) e
  where
    cases : (t : Bool) → is_low b ≡ t →
        (get_or bs (position_or_len is_low bs) 32 ≡ 32 → position_or_len is_blank bs ≡ position_or_len is_low bs) →
        get_or (b ∷ bs) (cond (not t) (1 + position_or_len is_low bs) 0) 32 ≡ 32 →
        cond (not (is_blank b)) (1 + position_or_len is_blank bs) 0 ≡ cond (not t) (1 + position_or_len is_low bs) 0
    cases true low rest ends = grind (arith, common_steps)
    cases false high rest ends = grind (arith, common_steps, nat_tests)

pub low_is_blank : (bytes : List ℕ) (n : ℕ) → n ≡ position_or_len is_low bytes → n < length bytes → get_or bytes n 0 ≡ 32 →
    n ≡ position_or_len is_blank bytes
low_is_blank bytes n e within space = grind (arith, common_steps, low_len)

pub none_is_blank : (bytes : List ℕ) (n : ℕ) → n ≡ position_or_len is_low bytes → n ≡ length bytes → n ≡ position_or_len is_blank bytes
none_is_blank bytes n e all = grind (arith, common_steps, low_len)

-- the first piece before a blank, and the words behind it
words_first : (bytes : List ℕ) → words_in bytes ≡ filter holds (take (place bytes) bytes ∷ []) ++ words_in (drop (place bytes + 1) bytes)
words_first bytes = grind (arith, common_steps, cases_lt, drop_all, filter-append, no_separator, slice_split_first, take_all)

some_bytes : (n : ℕ) → 0 < n → nat_lt 0 n ≡ true
some_bytes n some = grind (arith, nat_tests)

-- the first word of bytes that begin with no blank, and the words behind it
word_there : (bytes : List ℕ) → 0 < place bytes → words_in bytes ≡ take (place bytes) bytes ∷ words_in (drop (place bytes + 1) bytes)
word_there bytes some = grind (arith, common_steps, length-prefix_len, some_bytes, words_first)

-- the first word of some bytes
pub first_word_is : (bytes : List ℕ) → take (place (without_blanks bytes)) (without_blanks bytes) ≡ word_at (words_in bytes) 0
first_word_is bytes =
    ⊎_elim
    (λ (none : without_blanks bytes ≡ []).
    ap (λ (w : List ℕ). take (place w) w) none ∙ ap (λ (w : List ℕ). word_at (words_in w) 0) (sym none)
    ∙ ap (λ (ws : List Word). word_at ws 0) (sym (words_behind bytes)))
    (λ (some : 0 < place (without_blanks bytes)).
    sym (ap (λ (ws : List Word). word_at ws 0) (word_there (without_blanks bytes) some))
    ∙ ap (λ (ws : List Word). word_at ws 0) (sym (words_behind bytes)))
    (begins bytes)

front : (n : ℕ) (xs : List ℕ) → 0 < n → 0 < length xs → (0 < length (take n xs)) × (get_or (take n xs) 0 0 ≡ get_or xs 0 0)
front n [] some there = absurd (omega arith)
front zero (x ∷ xs) some there = absurd (omega arith)
front (suc n) (x ∷ xs) some there = (omega arith, refl)

no_front : (n : ℕ) (xs : List ℕ) → length xs ≡ 0 → length (take n xs) ≡ 0
no_front n xs none = grind (arith, common_steps)

-- the first byte behind the blanks is the first one of the first word
pub word_begins : (bytes : List ℕ) → 0 < length (without_blanks bytes) →
    (0 < length (word_at (words_in bytes) 0)) × (get_or (word_at (words_in bytes) 0) 0 0 ≡ get_or (without_blanks bytes) 0 0)
word_begins bytes some =
    ⊎_elim (λ (none : without_blanks bytes ≡ []). absurd (omega (arith, ap length none)))
    (λ (word : 0 < place (without_blanks bytes)).
    subst (λ (w : List ℕ). (0 < length w) × (get_or w 0 0 ≡ get_or (without_blanks bytes) 0 0)) (first_word_is bytes)
    (front (place (without_blanks bytes)) (without_blanks bytes) word some))
    (begins bytes)

pub no_word : (bytes : List ℕ) → length (without_blanks bytes) ≡ 0 → length (word_at (words_in bytes) 0) ≡ 0
no_word bytes none = ap length (sym (first_word_is bytes)) ∙ no_front (place (without_blanks bytes)) (without_blanks bytes) none

apart : (t b : ℕ) → is_blank b ≡ true → is_blank t ≡ false → eqb t b ≡ false
apart t b blank bare = grind (arith, nat_tests)

as_long : (m n : ℕ) → nat_eq (suc m) (suc n) ≡ nat_eq m n
as_long m n = grind (arith, nat_tests)

turned : (t b : ℕ) → eqb t b ≡ nat_eq b t
turned t b = grind (arith, nat_tests)

-- a word ends behind a text that bytes begin with
abbrev pub ends : List ℕ → List ℕ → Bool
ends text bytes = nat_eq (length text) (length bytes) || is_blank (get_or bytes (length text) 0)

-- the first word by a text without blanks that the bytes begin with
piece_by_text : (text bytes : List ℕ) → list_any is_blank text ≡ false →
    (starts_with eqb bytes text && ends text bytes) ≡ bytes_eq (take (place bytes) bytes) text
piece_by_text [] [] one = refl
piece_by_text [] (b ∷ bs) one = grind (arith, common_steps)
piece_by_text (t ∷ ts) [] one = refl
piece_by_text (t ∷ ts) (b ∷ bs) one =
    let none : (is_blank t ≡ false) × (list_any is_blank ts ≡ false) = or_parts (is_blank t) (list_any is_blank ts) one in
    ap (λ (e : Bool). starts_with eqb (b ∷ bs) (t ∷ ts) && (e || is_blank (get_or bs (length ts) 0))) (as_long (length ts) (length bs))
    ∙ by_blank (is_blank b) (starts_with eqb bs ts) (ends ts bs) refl none.0 (piece_by_text ts bs none.1)
  where
    by_blank : (u p q : Bool) → is_blank b ≡ u → is_blank t ≡ false → (p && q) ≡ bytes_eq (take (place bs) bs) ts →
        ((eqb t b && p) && q) ≡ bytes_eq (take (cond (not u) (1 + place bs) 0) (b ∷ bs)) (t ∷ ts)
    by_blank true p q blank bare same = ap (λ (e : Bool). (e && p) && q) (apart t b blank bare)
    by_blank false p q blank bare same = grind (arith, common_steps, turned)

word_by_text : (bytes text : List ℕ) → without_blanks bytes ≡ bytes → list_any is_blank text ≡ false →
    (starts_with eqb bytes text && ends text bytes) ≡ bytes_eq (word_at (words_in bytes) 0) text
word_by_text bytes text bare one =
    piece_by_text text bytes one
    ∙ ap (λ (w : List ℕ). bytes_eq w text) (ap (λ (w : List ℕ). take (place w) w) (sym bare) ∙ first_word_is bytes)

-- the same test part by part
pub by_parts : (bytes text : List ℕ) → without_blanks bytes ≡ bytes → list_any is_blank text ≡ false →
    (starts_with eqb bytes text ≡ false → bytes_eq (word_at (words_in bytes) 0) text ≡ false)
    × (starts_with eqb bytes text ≡ true → ends text bytes ≡ bytes_eq (word_at (words_in bytes) 0) text)
by_parts bytes text bare one = (
  λ none. sym (word_by_text bytes text bare one) ∙ ap (λ (s : Bool). s && ends text bytes) none,
  λ starts. sym (ap (λ (s : Bool). s && ends text bytes) starts) ∙ word_by_text bytes text bare one,
)

-- the words behind the first one
pub words_after : (bytes : List ℕ) → words_in (drop (place (without_blanks bytes) + 1) (without_blanks bytes)) ≡ drop 1 (words_in bytes)
words_after bytes =
    ⊎_elim
    (λ (none : without_blanks bytes ≡ []).
    ap (λ (w : List ℕ). words_in (drop (place w + 1) w)) none ∙ ap (λ (w : List ℕ). drop 1 (words_in w)) (sym none) ∙ ap (drop 1) (sym (words_behind bytes)))
    (λ (some : 0 < place (without_blanks bytes)).
    sym (ap (drop 1) (word_there (without_blanks bytes) some)) ∙ ap (drop 1) (sym (words_behind bytes)))
    (begins bytes)

-- a word by its place among those that are left of others, behind so many
pub word_behind : (later words : List Word) (n k : ℕ) → later ≡ drop n words → word_at later k ≡ word_at words (n + k)
word_behind later words n k behind = grind (arith, common_steps, get_or-drop, unwrap_or-slice_get)

-- the same of a place among all
pub word_further : (later words : List Word) (n k : ℕ) → n ≤ k → later ≡ drop n words → word_at later (k - n) ≡ word_at words k
word_further later words n k within behind =
    let place : n + (k - n) ≡ k = omega (arith, within) in
    word_behind later words n (k - n) behind ∙ ap (word_at words) place

-- what is left behind one more word
pub one_more : (later before words : List Word) (n : ℕ) → later ≡ drop 1 before → before ≡ drop n words → later ≡ drop (n + 1) words
one_more later before words n cut behind = cut ∙ ap (drop 1) behind ∙ drop-drop 1 n words
