-- The lines of a text, one by one, and what a text of whole lines becomes with one line more.
use Rattle.std.proofs.lemmas.Grind.{common_steps}
use Rattle.std.proofs.Common.{◌≡◌, ℕ, ◌+◌, ◌<◌, ◌≤◌, Bool, true, false, not, ◌&&◌, ◌||◌, cond, List, [], ◌∷◌, ◌++◌, length, map, take, drop, refl, sym, ap}
use Rattle.std.proofs.Common.{◌∙◌, arith}
use Rattle.std.specs.Prelude.{filter, flat_map, codes}
use Rattle.std.specs.List.{list_any, position_or_len}
use Rattle.std.proofs.lemmas.Bool.{and_parts, eqb-true}
use Rattle.std.proofs.lemmas.List.{map-append, drop_all}
use Rattle.std.proofs.lemmas.List.Concat.{flat_map-append}
use Rattle.std.proofs.lemmas.List.Elements.{filter-append}
use Rattle.std.proofs.lemmas.Slice.Eq.{bytes_eq-Decides}
use Rattle.net_addr.specs.Lines.{is_line_feed, line_of, lines_of, line_pieces}
use Rattle.net_addr.specs.JoinedLines.{is_of_whole_lines}
use Rattle.net_addr.proofs.JoinedFacts.{is_of_whole_lines-append}
use Rattle.net_addr.proofs.PieceFacts.{line_pieces-first}
use Rattle.net_model.specs.Configuration.{Configuration}
use Rattle.ios_lines.specs.Words.{word_at}
use Rattle.ios_sections.specs.TextLines.{TextLine, Part, text_line, lines_in, outside_banner, counts}
use Rattle.ios_sections.specs.TextLines.{counted_lines, is_end, parts_after, parts_of}
use Rattle.ios_sections.specs.Sections.{sections_in}
use Rattle.ios_sections.specs.JoinedLines.{further_on, is_in_banner, open_lines, open_sections}
use Rattle.ios_sections.proofs.JoinedFacts.{lines_in-append, outside-append, counted-append, parts-append, parts-none}
use Rattle.ios_sections.proofs.FurtherFacts.{counted-further}
use Rattle.ios_reader.specs.Faults.{section_faults, part_faults}
use Rattle.ios_reader.specs.Configurations.{configurations_in, configuration_of}
use Rattle.ios_reader.specs.InsertedLines.{IsOutsideBanners}
use Rattle.ios_reader.specs.Texts.{ReadsText}
use Rattle.ios_reader.specs.Places.{with_byte, raw_lines}
use Rattle.ios_reader.proofs.LookedUp.{none_left, none_right}
use Rattle.ios_reader.proofs.FurtherReading.{sections_faultless}

-- ---- the lines of a text, one by one ----

-- bytes that are one line
pub record IsRaw (raw : List ℕ) : Type 0 where
  pub some : 0 < length raw
  pub one : length raw ≤ position_or_len is_line_feed raw + 1

abbrev pub IsWholeBefore : List ℕ → List (List ℕ) → Type 0
IsWholeBefore raw [] = Unit {0}
IsWholeBefore raw (_ ∷ _) = is_of_whole_lines raw ≡ true

abbrev pub AreRaw : List (List ℕ) → Type 0
AreRaw [] = Unit {0}
AreRaw (raw ∷ raws) = IsRaw raw × (IsWholeBefore raw raws × AreRaw raws)

abbrev pub joined_raw : List (List ℕ) → List ℕ
joined_raw raws = flat_map (λ (raw : List ℕ). raw) raws

with_byte_raw : (b : ℕ) (raws : List (List ℕ)) → is_line_feed b ≡ false → AreRaw raws → AreRaw (with_byte b raws)
with_byte_raw b raws plain are = grind arith

with_byte_joined : (b : ℕ) (raws : List (List ℕ)) → joined_raw (with_byte b raws) ≡ b ∷ joined_raw raws
with_byte_joined b raws = grind (arith, common_steps)

feed_first : (raws : List (List ℕ)) → AreRaw raws → AreRaw ((10 ∷ []) ∷ raws)
feed_first [] are = (record { some = omega arith; one = omega arith }, (tt, tt))
feed_first (raw ∷ raws) are = (record { some = omega arith; one = omega arith }, (refl, are))

pub are_raw : (text : List ℕ) → AreRaw (raw_lines text)
are_raw [] = tt
are_raw (b ∷ bytes) = by_feed (is_line_feed b) refl (are_raw bytes)
  where
    by_feed : (t : Bool) → is_line_feed b ≡ t → AreRaw (raw_lines bytes) → AreRaw (cond t ((10 ∷ []) ∷ raw_lines bytes) (with_byte b (raw_lines bytes)))
    by_feed true e are = feed_first (raw_lines bytes) are
    by_feed false e are = with_byte_raw b (raw_lines bytes) e are

pub raw_joined : (text : List ℕ) → joined_raw (raw_lines text) ≡ text
raw_joined [] = refl
raw_joined (b ∷ bytes) = by_feed (is_line_feed b) refl (raw_joined bytes)
  where
    by_feed : (t : Bool) → is_line_feed b ≡ t → joined_raw (raw_lines bytes) ≡ bytes →
        joined_raw (cond t ((10 ∷ []) ∷ raw_lines bytes) (with_byte b (raw_lines bytes))) ≡ b ∷ bytes
    by_feed true e rest = ap (λ l. 10 ∷ l) rest ∙ ap (λ c. c ∷ bytes) (sym (eqb-true b 10 e))
    by_feed false e rest = with_byte_joined b (raw_lines bytes) ∙ ap (λ l. b ∷ l) rest

-- such bytes have one line
pub record HasOneLine (raw : List ℕ) : Type 0 where
  pub line : TextLine
  pub is : lines_in raw ≡ line ∷ []
  pub first : line.number ≡ 1

pub one_line : (raw : List ℕ) → IsRaw raw → HasOneLine raw
one_line raw is =
    let n : ℕ = position_or_len is_line_feed raw in
    let one = is.one in
    let rest : drop (n + 1) raw ≡ [] = drop_all (n + 1) raw (omega (arith, one)) in
    let pieces : line_pieces raw ≡ take n raw ∷ [] = line_pieces-first raw n refl is.some ∙ ap (λ l. take n raw ∷ line_pieces l) rest in
    record { line = text_line raw (line_of 1 0 (take n raw)); is = ap (λ l. map (text_line raw) (lines_of 1 0 l)) pieces; first = refl }

-- ---- one line more behind a text ----

-- the lines that count of some lines and of one more
counted_more : (xs : List TextLine) (line : TextLine) → counted_lines (xs ++ line ∷ []) ≡ counted_lines xs
    ++ filter counts (outside_banner (is_in_banner xs) line)
counted_more xs line = grind (arith, common_steps, filter-append, line, outside-append)

-- none of these lines is an `end` line
none_ends : (inside : Bool) (line : TextLine) → (not inside && is_end line) ≡ false → list_any is_end (filter counts (outside_banner inside line)) ≡ false
none_ends true line off = refl
none_ends false line off = by_count (counts line)
  where
    by_count : (t : Bool) → list_any is_end (cond t (line ∷ []) []) ≡ false
    by_count true = ap (λ b. b || false) off
    by_count false = refl

-- a line that is no `end` line outside banners ends no part
pub parts_stay : (xs : List TextLine) (line : TextLine) → (not (is_in_banner xs) && is_end line) ≡ false → parts_of (xs ++ line ∷ []) ≡ parts_of xs
parts_stay xs line off = grind (arith, common_steps, counted_more, line, none_ends, parts-append, parts-none)

-- ---- an `end` line behind a text ----

pub end_word : (line : TextLine) → is_end line ≡ true → word_at line.words 0 ≡ codes "end"
end_word line e = grind (arith, common_steps, and_parts, bytes_eq-Decides, line)

pub counted_end : (line : TextLine) (ls : List TextLine) → is_end line ≡ true → counted_lines (line ∷ ls) ≡ line ∷ counted_lines ls
counted_end line ls e = grind (arith, common_steps, end_word, line)

abbrev pub part_with : List TextLine → ℕ → Part
part_with lines ends = record { lines = lines; ends = ends }

pub parts_at_end : (before after : List ℕ) (line : TextLine) (behind : List TextLine) → IsOutsideBanners before → lines_in after ≡ line ∷ behind →
    is_end line ≡ true →
    parts_of (lines_in (before ++ after))
    ≡ parts_of (lines_in before) ++ part_with (open_lines before) (length (lines_in before) + line.number) ∷ parts_after []
    (map (further_on (length (lines_in before))) (counted_lines behind))
parts_at_end before after line behind outside is e =
    grind (arith, common_steps, counted-append, counted-further, counted_end, is, line, lines_in-append, parts-append)

pub whole_next : (before raw : List ℕ) (raws : List (List ℕ)) → is_of_whole_lines before ≡ true → IsWholeBefore raw raws → IsWholeBefore (before ++ raw) raws
whole_next before raw raws whole next = grind (arith, common_steps, is_of_whole_lines-append)

pub whole_start : (raws : List (List ℕ)) → IsWholeBefore [] raws
whole_start raws = grind (arith, common_steps)

-- ---- configurations ----

pub configurations_stay : (before raw : List ℕ) (line : TextLine) → is_of_whole_lines before ≡ true → lines_in raw ≡ line ∷ [] →
    (not (is_in_banner (lines_in before)) && is_end line) ≡ false → configurations_in (lines_in (before ++ raw)) ≡ configurations_in (lines_in before)
configurations_stay before raw line whole is off = grind (arith, common_steps, is, line, lines_in-append, parts_stay)

pub configurations_end : (before raw : List ℕ) (line : TextLine) → IsOutsideBanners before → lines_in raw ≡ line ∷ [] → is_end line ≡ true →
    configurations_in (lines_in (before ++ raw)) ≡ configurations_in (lines_in before) ++ configuration_of (open_sections before) ∷ []
configurations_end before raw line outside is e =
    ap (map (λ (part : Part). configuration_of (sections_in part))) (parts_at_end before raw line [] outside is e)
    ∙ map-append (λ (part : Part). configuration_of (sections_in part)) (parts_of (lines_in before))
    (part_with (open_lines before) (length (lines_in before) + line.number) ∷ [])

-- behind a text that is read up to its next `end` line, what stands open has no fault
pub open_fine : (before after : List ℕ) (line : TextLine) (behind : List TextLine) (configurations : List Configuration) → IsOutsideBanners before →
    lines_in after ≡ line ∷ behind → is_end line ≡ true → ReadsText (before ++ after) configurations →
    section_faults (open_sections before) (length (lines_in before) + line.number) ≡ []
open_fine before after line behind configurations outside is e reads =
    let count : ℕ = length (lines_in before) in
    let part : Part = part_with (open_lines before) (count + line.number) in
    let later : List Part = parts_after [] (map (further_on count) (counted_lines behind)) in
    let all : flat_map part_faults (parts_of (lines_in (before ++ after))) ≡ [] = none_left _ _ reads.faultless in
    let split : flat_map part_faults (parts_of (lines_in before)) ++ flat_map part_faults (part ∷ later) ≡ [] =
    sym (flat_map-append part_faults (parts_of (lines_in before)) (part ∷ later))
    ∙ sym (ap (flat_map part_faults) (parts_at_end before after line behind outside is e)) ∙ all in
    sections_faultless part (count + line.number)
    (none_left (part_faults part) (flat_map part_faults later)
    (none_right (flat_map part_faults (parts_of (lines_in before))) (flat_map part_faults (part ∷ later)) split))

-- lists with one front have one back
pub same_back : {A : Type 0} (front one two : List A) → front ++ one ≡ front ++ two → one ≡ two
same_back [] one two e = e
same_back (x ∷ front) one two e = same_back front one two (let tails : front ++ one ≡ front ++ two = cc in tails)

pub same_tail : {A : Type 0} (x : A) (one two : List A) → x ∷ one ≡ x ∷ two → one ≡ two
same_tail x one two e = cc
