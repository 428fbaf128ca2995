-- The lines, the counted lines and the parts of texts joined end to end.
use Rattle.std.proofs.lemmas.Grind.{common_steps}
use Rattle.std.proofs.Common.{sym, ◌≡◌, ℕ, ◌+◌, ◌-◌, Bool, true, false, not, ◌&&◌, List, [], ◌∷◌, ◌++◌, length, take, drop, refl, ap, ◌∙◌, cond}
use Rattle.std.proofs.Common.{map, append_assoc, append-nil, arith}
use Rattle.std.specs.Prelude.{filter, fold, All}
use Rattle.std.specs.List.{list_any, prefix_len}
use Rattle.std.proofs.lemmas.Bool.{or_parts, eq-eqb}
use Rattle.std.proofs.lemmas.List.Sums.{prefix_len-le-length}
use Rattle.std.proofs.lemmas.Grind.{fold-append}
use Rattle.std.proofs.lemmas.List.{map-append, length-map, take-append-le, drop-append-le, drop-drop, drop_at}
use Rattle.std.proofs.lemmas.List.Elements.{All-head, All-tail, filter-append}
use Rattle.net_addr.specs.declared.line.Line.{Line}
use Rattle.net_addr.specs.Blanks.{words_in}
use Rattle.net_addr.specs.Spans.{bytes_of, LiesIn}
use Rattle.net_addr.specs.JoinedLines.{is_of_whole_lines, line_further_on}
use Rattle.net_addr.proofs.JoinedFacts.{text_lines-append}
use Rattle.net_addr.proofs.PlacedPieces.{text_lines-inside}
use Rattle.ios_sections.specs.TextLines.{TextLine, Part, text_line, lines_in, opens_banner, banner_after, outside_banner, outside_banners, counts}
use Rattle.ios_sections.specs.TextLines.{counted_lines, is_end, parts_after, rest_after, TextSection, opens_section, first_indent, section_lines, sections_of}
use Rattle.ios_sections.specs.Sections.{section_of, sections_among}
use Rattle.ios_sections.specs.JoinedLines.{further_on, is_in_banner, begins_banner}

-- ---- the lines of a text ----

abbrev line_with : ℕ → ℕ → List ℕ → TextLine
line_with number indent bytes = record { number = number; indent = indent; bytes = bytes; words = words_in bytes }

bytes-first : (xs ys : List ℕ) (line : Line) → LiesIn xs line.span → bytes_of (xs ++ ys) line.span ≡ bytes_of xs line.span
bytes-first xs ys line inside = grind (arith, common_steps, drop-append-le, take-append-le)

first-lines : (xs ys : List ℕ) (lines : List Line) → All (λ (line : Line). LiesIn xs line.span) lines →
    map (text_line (xs ++ ys)) lines ≡ map (text_line xs) lines
first-lines xs ys [] inside = refl
first-lines xs ys (line ∷ lines) inside =
    ap (λ (bytes : List ℕ). line_with line.number line.indent bytes ∷ map (text_line (xs ++ ys)) lines)
    (bytes-first xs ys line (All-head (λ (l : Line). LiesIn xs l.span) line lines inside))
    ∙ ap (λ (ls : List TextLine). text_line xs line ∷ ls) (first-lines xs ys lines (All-tail (λ (l : Line). LiesIn xs l.span) line lines inside))

bytes-second : (xs ys : List ℕ) (count : ℕ) (line : Line) → bytes_of (xs ++ ys) (line_further_on count (length xs) line).span ≡ bytes_of ys line.span
bytes-second xs ys count line =
    let wide : length xs + line.span.stop - (length xs + line.span.start) ≡ line.span.stop - line.span.start = omega arith in
    ap (λ (n : ℕ). take n (drop (length xs + line.span.start) (xs ++ ys))) wide
    ∙ ap (take (line.span.stop - line.span.start))
    (sym (drop-drop line.span.start (length xs) (xs ++ ys)) ∙ ap (drop line.span.start) (drop_at xs ys (length xs) refl))

second-lines : (xs ys : List ℕ) (count : ℕ) (lines : List Line) →
    map (text_line (xs ++ ys)) (map (line_further_on count (length xs)) lines) ≡ map (further_on count) (map (text_line ys) lines)
second-lines xs ys count [] = refl
second-lines xs ys count (line ∷ lines) =
    ap (λ (bytes : List ℕ). line_with (count + line.number) line.indent bytes ∷ map (text_line (xs ++ ys)) (map (line_further_on count (length xs)) lines))
    (bytes-second xs ys count line)
    ∙ ap (λ (ls : List TextLine). further_on count (text_line ys line) ∷ ls) (second-lines xs ys count lines)

-- the lines of a text of whole lines, and then those of the other, further on
pub lines_in-append : (xs ys : List ℕ) → is_of_whole_lines xs ≡ true →
    lines_in (xs ++ ys) ≡ lines_in xs ++ map (further_on (length (lines_in xs))) (lines_in ys)
lines_in-append xs ys whole =
    grind (arith, common_steps, first-lines, length-map, map-append, second-lines, text_lines-append, text_lines-inside)

-- ---- the lines that count ----

cond_append : {A : Type 0} (t : Bool) (x : A) (xs ys : List A) → cond t [] (x ∷ []) ++ (xs ++ ys) ≡ (cond t [] (x ∷ []) ++ xs) ++ ys
cond_append t x xs ys = grind (arith, common_steps)

pub outside-append : (inside : Bool) (xs ys : List TextLine) →
    outside_banners inside (xs ++ ys) ≡ outside_banners inside xs ++ outside_banners (fold banner_after inside xs) ys
outside-append inside [] ys = refl
outside-append inside (x ∷ xs) ys =
    ap (λ (ls : List TextLine). outside_banner inside x ++ ls) (outside-append (banner_after inside x) xs ys)
    ∙ cond_append inside x (outside_banners (banner_after inside x) xs) (outside_banners (fold banner_after (banner_after inside x) xs) ys)

-- the lines that count of some lines behind which no banner is open, and then those of the others
pub counted-append : (xs ys : List TextLine) → is_in_banner xs ≡ false → counted_lines (xs ++ ys) ≡ counted_lines xs ++ counted_lines ys
counted-append xs ys outside = grind (arith, common_steps, filter-append, outside-append)

-- whether a banner is open behind some lines and then others
pub banner-append : (xs ys : List TextLine) → is_in_banner xs ≡ false → is_in_banner (xs ++ ys) ≡ is_in_banner ys
banner-append xs ys outside = fold-append banner_after false xs ys ∙ ap (λ (b : Bool). fold banner_after b ys) outside

not_opening : (t u : Bool) → t ≡ false → (t && u) ≡ false
not_opening t u e = grind (arith, common_steps)

no_banner_opened : (line : TextLine) → begins_banner line ≡ false → opens_banner line ≡ false
no_banner_opened line e = not_opening (begins_banner line) _ e

-- no banner is open behind lines without one
pub banner-none : (xs : List TextLine) → list_any begins_banner xs ≡ false → is_in_banner xs ≡ false
banner-none [] none = refl
banner-none (x ∷ xs) none =
    let parts : (begins_banner x ≡ false) × (list_any begins_banner xs ≡ false) = or_parts (begins_banner x) (list_any begins_banner xs) none in
    ap (λ (b : Bool). fold banner_after b xs) (no_banner_opened x parts.0) ∙ banner-none xs parts.1

outside-none : (xs : List TextLine) → list_any begins_banner xs ≡ false → outside_banners false xs ≡ xs
outside-none [] none = refl
outside-none (x ∷ xs) none =
    let parts : (begins_banner x ≡ false) × (list_any begins_banner xs ≡ false) = or_parts (begins_banner x) (list_any begins_banner xs) none in
    ap (λ (b : Bool). x ∷ outside_banners b xs) (no_banner_opened x parts.0) ∙ ap (λ (ls : List TextLine). x ∷ ls) (outside-none xs parts.1)

none_kept : (u : Bool) (x : TextLine) (ls : List TextLine) → is_end x ≡ false → list_any is_end ls ≡ false → list_any is_end (cond u (x ∷ ls) ls) ≡ false
none_kept u x ls off none = grind (arith, common_steps)

no_end_among : (xs : List TextLine) → list_any is_end xs ≡ false → list_any is_end (filter counts xs) ≡ false
no_end_among [] none = refl
no_end_among (x ∷ xs) none =
    let parts : (is_end x ≡ false) × (list_any is_end xs ≡ false) = or_parts (is_end x) (list_any is_end xs) none in
    none_kept (counts x) x (filter counts xs) parts.0 (no_end_among xs parts.1)

-- the lines that count of a block without a banner and without an `end` line have no `end` line
pub counted-no_end : (xs : List TextLine) → list_any begins_banner xs ≡ false → list_any is_end xs ≡ false → list_any is_end (counted_lines xs) ≡ false
counted-no_end xs no_banner no_end = grind (arith, common_steps, no_end_among, outside-none)

-- ---- the parts ----

abbrev part_with : List TextLine → ℕ → Part
part_with lines ends = record { lines = lines; ends = ends }

cond_two : {A : Type 0} (t : Bool) (a b c d : A) → a ≡ c → b ≡ d → cond t a b ≡ cond t c d
cond_two t a b c d p q = grind (arith, common_steps)

parts_choice : (t : Bool) (p : Part) (a b c d : List Part) → cond t (p ∷ (a ++ c)) (b ++ d) ≡ cond t (p ∷ a) b ++ cond t c d
parts_choice t p a b c d = grind (arith, common_steps)

rest_choice : (t : Bool) (a b : List TextLine) (ys : List TextLine) → cond t (parts_after a ys) (parts_after b ys) ≡ parts_after (cond t a b) ys
rest_choice t a b ys = grind (arith, common_steps)

-- the parts of some lines, and then those of others, of which the first begins with what was open
pub parts-append : (before xs ys : List TextLine) → parts_after before (xs ++ ys) ≡ parts_after before xs ++ parts_after (rest_after before xs) ys
parts-append before [] ys = refl
parts-append before (x ∷ xs) ys =
    cond_two (is_end x) (part_with before x.number ∷ parts_after [] (xs ++ ys)) (parts_after (before ++ x ∷ []) (xs ++ ys)) _ _
    (ap (λ (ps : List Part). part_with before x.number ∷ ps) (parts-append [] xs ys)) (parts-append (before ++ x ∷ []) xs ys)
    ∙ parts_choice (is_end x) (part_with before x.number) (parts_after [] xs) (parts_after (before ++ x ∷ []) xs) (parts_after (rest_after [] xs) ys)
    (parts_after (rest_after (before ++ x ∷ []) xs) ys)
    ∙ ap (λ (ps : List Part). parts_after before (x ∷ xs) ++ ps) (rest_choice (is_end x) (rest_after [] xs) (rest_after (before ++ x ∷ []) xs) ys)

open_choice : (t : Bool) (a b : List TextLine) (ys : List TextLine) → cond t (rest_after a ys) (rest_after b ys) ≡ rest_after (cond t a b) ys
open_choice t a b ys = grind (arith, common_steps)

-- what is open behind some lines and then others
pub rest-append : (before xs ys : List TextLine) → rest_after before (xs ++ ys) ≡ rest_after (rest_after before xs) ys
rest-append before [] ys = refl
rest-append before (x ∷ xs) ys =
    cond_two (is_end x) (rest_after [] (xs ++ ys)) (rest_after (before ++ x ∷ []) (xs ++ ys)) _ _ (rest-append [] xs ys) (rest-append (before ++ x ∷ []) xs ys)
    ∙ open_choice (is_end x) (rest_after [] xs) (rest_after (before ++ x ∷ []) xs) ys

-- lines without an `end` line end no part
pub parts-none : (before xs : List TextLine) → list_any is_end xs ≡ false → parts_after before xs ≡ []
parts-none before [] none = refl
parts-none before (x ∷ xs) none =
    let parts : (is_end x ≡ false) × (list_any is_end xs ≡ false) = or_parts (is_end x) (list_any is_end xs) none in
    ap (λ (b : Bool). cond b (part_with before x.number ∷ parts_after [] xs) (parts_after (before ++ x ∷ []) xs)) parts.0
    ∙ parts-none (before ++ x ∷ []) xs parts.1

-- lines without an `end` line stay open
pub rest-none : (before xs : List TextLine) → list_any is_end xs ≡ false → rest_after before xs ≡ before ++ xs
rest-none before [] none = sym (append-nil before)
rest-none before (x ∷ xs) none =
    let parts : (is_end x ≡ false) × (list_any is_end xs ≡ false) = or_parts (is_end x) (list_any is_end xs) none in
    ap (λ (b : Bool). cond b (rest_after [] xs) (rest_after (before ++ x ∷ []) xs)) parts.0
    ∙ rest-none (before ++ x ∷ []) xs parts.1
    ∙ append_assoc before (x ∷ []) xs

-- ---- the sections ----

prefix-append : (p : TextLine → Bool) (xs ys : List TextLine) → prefix_len p ys ≡ 0 → prefix_len p (xs ++ ys) ≡ prefix_len p xs
prefix-append p [] ys none = none
prefix-append p (x ∷ xs) ys none = ap (λ (n : ℕ). cond (p x) (1 + n) 0) (prefix-append p xs ys none)

abbrev is_inside : TextLine → Bool
is_inside line = not (opens_section line)

none_inside : (ys : List TextLine) → first_indent ys ≡ 0 → prefix_len is_inside ys ≡ 0
none_inside ys e = grind (arith, common_steps, eq-eqb)

section_lines-append : (xs ys : List TextLine) → first_indent ys ≡ 0 → section_lines (xs ++ ys) ≡ section_lines xs
section_lines-append xs ys e = grind (arith, common_steps, none_inside, prefix-append, prefix_len-le-length, take-append-le)

abbrev text_section : TextLine → List TextLine → TextSection
text_section head body = record { head = head; body = body }

sections_choice : (t : Bool) (s : TextSection) (ss ts : List TextSection) → cond t (s ∷ (ss ++ ts)) (ss ++ ts) ≡ cond t (s ∷ ss) ss ++ ts
sections_choice t s ss ts = grind (arith, common_steps)

sections_of-append : (xs ys : List TextLine) → first_indent ys ≡ 0 → sections_of (xs ++ ys) ≡ sections_of xs ++ sections_of ys
sections_of-append [] ys e = refl
sections_of-append (x ∷ xs) ys e =
    ap (λ (ls : List TextLine). cond (opens_section x) (text_section x ls ∷ sections_of (xs ++ ys)) (sections_of (xs ++ ys))) (section_lines-append xs ys e)
    ∙ ap (λ (ss : List TextSection). cond (opens_section x) (text_section x (section_lines xs) ∷ ss) ss) (sections_of-append xs ys e)
    ∙ sections_choice (opens_section x) (text_section x (section_lines xs)) (sections_of xs) (sections_of ys)

-- what the sections of some lines say, and then those of others, of which the first opens a section
pub sections_among-append : (xs ys : List TextLine) → first_indent ys ≡ 0 → sections_among (xs ++ ys) ≡ sections_among xs ++ sections_among ys
sections_among-append xs ys e = ap (map section_of) (sections_of-append xs ys e) ∙ map-append section_of (sections_of xs) (sections_of ys)
