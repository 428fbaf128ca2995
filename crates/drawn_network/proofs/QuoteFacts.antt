-- No name gets out of its quotes, and no text out of its label of HTML.
use Rattle.std.proofs.Common.{◌≡◌, ◌≢◌, ℕ, ◌+◌, ◌^◌, ◌<◌, ◌≤◌, ◌↔◌, ◌==◌, ◌||◌, ◌&&◌, not, suc, Bool}
use Rattle.std.proofs.Common.{true, false, cond, List, [], ◌∷◌, ◌++◌}
use Rattle.std.proofs.Common.{All, append_assoc, codes, decimal, refl, sym, subst, arith}
use Rattle.std.specs.Char.{IsAsciiDigit}
use Rattle.std.specs.List.{list_all}
use Rattle.std.proofs.lemmas.Bool.{eqb-true}
use Rattle.std.proofs.lemmas.Bool.Decides.{eqb_tells}
use Rattle.std.proofs.lemmas.List.Elements.{All-append, All-cons, All-nil, All-weaker}
use Rattle.printed_lines.proofs.NumberFacts.{decimal-IsNumeral}
use Rattle.drawn_network.specs.Quotes.{ClosesBefore, at_quote, past_pair, past_byte, escaped, escaped_byte, html, html_byte}
use Rattle.drawn_network.specs.PictureLaws.{HtmlOpensNothing, LabelsEndAtTheirQuote, NamesEndAtTheirQuote, NamesStayApart}
use Rattle.drawn_network.specs.RouterLines.{lacking_words, router_label}

-- a quoted text closes at one place
closes_once : (text rest other : List ℕ) → ClosesBefore text rest → ClosesBefore text other → rest ≡ other
closes_once _ _ _ (at_quote b rest e) (at_quote _ _ _) = refl
closes_once _ _ _ (at_quote b rest e) (past_pair _ c text _ f _) = absurd (omega arith)
closes_once _ _ _ (at_quote b rest e) (past_byte _ _ _ f _ _) = absurd (f e)
closes_once _ _ _ (past_pair b c text rest e h) (at_quote _ _ f) = absurd (omega arith)
closes_once _ _ _ (past_pair b c text rest e h) (past_pair _ _ _ other _ k) = closes_once text rest other h k
closes_once _ _ _ (past_pair b c text rest e h) (past_byte _ _ _ _ f _) = absurd (f e)
closes_once _ _ _ (past_byte b text rest e f h) (at_quote _ _ k) = absurd (e k)
closes_once _ _ _ (past_byte b text rest e f h) (past_pair _ _ _ _ k _) = absurd (f k)
closes_once _ _ _ (past_byte b text rest e f h) (past_byte _ _ other _ _ k) = closes_once text rest other h k

-- a text that stays inside quotes: what closes behind it closes there
abbrev StaysInside : List ℕ → Type 0
StaysInside text = (more rest : List ℕ) → ClosesBefore more rest → ClosesBefore (text ++ more) rest

both_inside : (one other : List ℕ) → StaysInside one → StaysInside other → StaysInside (one ++ other)
both_inside one other h k more rest close =
    subst (λ (l : List ℕ). ClosesBefore l rest) (sym (append_assoc one other more)) (h (other ++ more) rest (k more rest close))

-- a test that fails
differs : (a b : ℕ) → (a == b) ≡ false → a ≢ b
differs a b fails same = grind (arith, eqb_tells a b)

passes_not : (test : Bool) → not test ≡ true → test ≡ false
passes_not true e = cc
passes_not false e = refl

both_pass : (one other : Bool) → (one && other) ≡ true → (one ≡ true) × (other ≡ true)
both_pass true true e = (refl, refl)
both_pass true false e = (refl, e)
both_pass false other e = absurd cc

-- a byte that is neither a quote nor a backslash
abbrev IsPlainByte : ℕ → Type 0
IsPlainByte b = (b ≢ 34) × (b ≢ 92)

plain_inside : (text : List ℕ) → All IsPlainByte text → StaysInside text
plain_inside [] plain = λ more rest close. close
plain_inside (b ∷ text) plain = λ more rest close.
    let first : IsPlainByte b = plain 0 0 (omega arith) in
    past_byte b (text ++ more) rest first.0 first.1
    (plain_inside text (λ k d within. plain (suc k) d (omega arith)) more rest close)

abbrev is_plain : ℕ → Bool
is_plain b = not (b == 34) && not (b == 92)

-- the same of a text whose bytes are known
known_inside : (text : List ℕ) → list_all is_plain text ≡ true → StaysInside text
known_inside [] plain = λ more rest close. close
known_inside (b ∷ text) plain = λ more rest close.
    let both = both_pass (is_plain b) (list_all is_plain text) plain in
    let one = both_pass (not (b == 34)) (not (b == 92)) both.0 in
    past_byte b (text ++ more) rest (differs b 34 (passes_not (b == 34) one.0)) (differs b 92 (passes_not (b == 92) one.1))
    (known_inside text both.1 more rest close)

byte_inside : (b : ℕ) (quote slash : Bool) → (quote ≡ false → b ≢ 34) → (slash ≡ false → b ≢ 92) →
    StaysInside (cond (quote || slash) (92 ∷ b ∷ []) (b ∷ []))
byte_inside b true slash e f more rest close = past_pair 92 b more rest refl close
byte_inside b false true e f more rest close = past_pair 92 b more rest refl close
byte_inside b false false e f more rest close = past_byte b more rest (e refl) (f refl) close

escaped_inside : (text : List ℕ) → StaysInside (escaped text)
escaped_inside [] = λ more rest close. close
escaped_inside (b ∷ text) =
    both_inside (escaped_byte b) (escaped text) (byte_inside b (b == 34) (b == 92) (differs b 34) (differs b 92))
    (escaped_inside text)

digit_plain : (b : ℕ) → IsAsciiDigit b → IsPlainByte b
digit_plain b digit = let low : 48 ≤ b = digit.0 in let high : b ≤ 57 = digit.1 in (λ e. omega arith, λ e. omega arith)

number_inside : (n : ℕ) → n < 2 ^ 64 → StaysInside (decimal n)
number_inside n fits =
    plain_inside (decimal n) (All-weaker IsAsciiDigit IsPlainByte digit_plain (decimal n) (decimal-IsNumeral n fits).digits)

words_inside : (lacks : Bool) → StaysInside (lacking_words lacks)
words_inside true more rest close =
    past_pair 92 110 (codes "no step" ++ more) rest refl (known_inside (codes "no step") refl more rest close)
words_inside false more rest close = close

label_inside : (name : List ℕ) (w : ℕ) (lacks : Bool) → w < 2 ^ 32 → StaysInside (router_label name w lacks)
label_inside name w lacks few =
    both_inside _ (lacking_words lacks)
    (both_inside _ (decimal (w + 1)) (both_inside (escaped name) (codes "\\n") (escaped_inside name)
    (λ more rest close. past_pair 92 110 more rest refl close)) (number_inside (w + 1) (omega arith)))
    (words_inside lacks)

-- what stays inside closes at the quote behind it, and only there
closes_there : (text behind rest : List ℕ) → StaysInside text → ClosesBefore (text ++ 34 ∷ behind) rest ↔ rest ≡ behind
closes_there text behind rest inside =
    let there : ClosesBefore (text ++ 34 ∷ behind) behind = inside (34 ∷ behind) behind (at_quote 34 behind refl) in (
      λ close. closes_once (text ++ 34 ∷ behind) rest behind close there,
      λ same. subst (λ (l : List ℕ). ClosesBefore (text ++ 34 ∷ behind) l) (sym same) there,
    )

pub names_end : NamesEndAtTheirQuote
names_end name behind rest = closes_there (escaped name) behind rest (escaped_inside name)

pub labels_end : LabelsEndAtTheirQuote
labels_end name w lacks behind rest few = closes_there (router_label name w lacks) behind rest (label_inside name w lacks few)

-- ---- different names ----

apart_by : (b c : ℕ) (one other : List ℕ) (quote slash quotes slashes : Bool) → (slash ≡ false → b ≢ 92) →
    (slashes ≡ false → c ≢ 92) →
    (quote ≡ true → b ≡ 34) → (quotes ≡ true → c ≡ 34) →
    cond (quote || slash) (92 ∷ b ∷ []) (b ∷ []) ++ one ≡ cond (quotes || slashes) (92 ∷ c ∷ []) (c ∷ []) ++ other →
    (b ≡ c) × (one ≡ other)
apart_by b c one other true slash true slashes e f g h same = (cc, cc)
apart_by b c one other true slash false true e f g h same = (cc, cc)
apart_by b c one other true slash false false e f g h same = let no = f refl in let is : c ≡ 92 = cc in absurd (no is)
apart_by b c one other false true true slashes e f g h same = (cc, cc)
apart_by b c one other false true false true e f g h same = (cc, cc)
apart_by b c one other false true false false e f g h same = let no = f refl in let is : c ≡ 92 = cc in absurd (no is)
apart_by b c one other false false true slashes e f g h same = let no = e refl in let is : b ≡ 92 = cc in absurd (no is)
apart_by b c one other false false false true e f g h same = let no = e refl in let is : b ≡ 92 = cc in absurd (no is)
apart_by b c one other false false false false e f g h same = (cc, cc)

nothing_left : (b : ℕ) (rest : List ℕ) (test : Bool) → cond test (92 ∷ b ∷ []) (b ∷ []) ++ rest ≡ [] → ⊥
nothing_left b rest true same = cc
nothing_left b rest false same = cc

pub names_apart : NamesStayApart
names_apart [] [] same = refl
names_apart [] (c ∷ other) same = absurd (nothing_left c (escaped other) ((c == 34) || (c == 92)) (sym same))
names_apart (b ∷ name) [] same = absurd (nothing_left b (escaped name) ((b == 34) || (b == 92)) same)
names_apart (b ∷ name) (c ∷ other) same =
    let parts = apart_by b c (escaped name) (escaped other) (b == 34) (b == 92) (c == 34) (c == 92) (differs b 92) (differs c 92)
    (eqb-true b 34) (eqb-true c 34) same in
    let rest : name ≡ other = names_apart name other parts.1 in
    let first : b ≡ c = parts.0 in
    cc

-- ---- HTML ----

abbrev OpensNothing : ℕ → Type 0
OpensNothing b = (b ≢ 60) × (b ≢ 62)

abbrev is_open : ℕ → Bool
is_open b = not (b == 60) && not (b == 62)

known_open : (text : List ℕ) → list_all is_open text ≡ true → All OpensNothing text
known_open [] clear = All-nil OpensNothing
known_open (b ∷ text) clear =
    let both = both_pass (is_open b) (list_all is_open text) clear in
    let one = both_pass (not (b == 60)) (not (b == 62)) both.0 in
    All-cons OpensNothing b text (differs b 60 (passes_not (b == 60) one.0), differs b 62 (passes_not (b == 62) one.1))
    (known_open text both.1)

byte_opens : (b : ℕ) (is_and is_less is_more is_feed : Bool) → (is_less ≡ false → b ≢ 60) → (is_more ≡ false → b ≢ 62) →
    All OpensNothing (cond is_and (codes "&amp;") (cond is_less (codes "&lt;") (cond is_more (codes "&gt;")
    (cond is_feed [] (b ∷ [])))))
byte_opens b true less more feed e f = known_open (codes "&amp;") refl
byte_opens b false true more feed e f = known_open (codes "&lt;") refl
byte_opens b false false true feed e f = known_open (codes "&gt;") refl
byte_opens b false false false true e f = All-nil OpensNothing
byte_opens b false false false false e f = All-cons OpensNothing b [] (e refl, f refl) (All-nil OpensNothing)

pub html_opens : HtmlOpensNothing
html_opens [] = All-nil OpensNothing
html_opens (b ∷ text) =
    All-append OpensNothing (html_byte b) (html text)
    (byte_opens b (b == 38) (b == 60) (b == 62) (b == 10) (differs b 60) (differs b 62)) (html_opens text)
