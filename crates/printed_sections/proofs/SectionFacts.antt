-- A printed section, line by line: how it reads.
use Rattle.std.proofs.Common.{◌≡◌, ℕ, ◌+◌, ◌<◌, ◌≤◌, Bool, true, false, not, ◌&&◌, ◌||◌, cond, List, [], ◌∷◌, ◌++◌}
use Rattle.std.proofs.Common.{length, map, refl, sym, ap}
use Rattle.std.proofs.Common.{◌∙◌, ◌^◌, append-nil, arith, codes, decimal, nat_eq, nat_le, nat_lt}
use Rattle.std.specs.Prelude.{All, filter, slice_index}
use Rattle.std.specs.List.{list_all, list_any, prefix_len, before_first}
use Rattle.std.specs.Char.{IsAsciiDigit}
use Rattle.std.specs.Str.Lines.{strip_carriage_return}
use Rattle.std.proofs.lemmas.Bool.{and_from, and_parts, or_from, le-leb, leb-true, ltb-true, not-true}
use Rattle.std.proofs.lemmas.Bool.Decides.{nat_tests}
use Rattle.std.proofs.lemmas.List.{take_all}
use Rattle.std.proofs.lemmas.List.Elements.{All-cons, All-head, All-nil, All-tail}
use Rattle.net_addr.specs.declared.line.Line.{Line}
use Rattle.net_addr.specs.Blanks.{indent_of, words_in}
use Rattle.net_addr.specs.Spans.{bytes_of}
use Rattle.net_addr.specs.Lines.{line_of, text_lines}
use Rattle.net_addr.specs.JoinedLines.{is_of_whole_lines}
use Rattle.net_addr.proofs.PlacedPieces.{text_lines-texts}
use Rattle.printed_lines.specs.Words.{IsWordByte, IsPrintedWord, joined, spaced}
use Rattle.printed_lines.specs.Texts.{IsPrintedLine, text_of}
use Rattle.printed_lines.specs.ReadBack.{ReadsAsWords}
use Rattle.printed_lines.proofs.LineFacts.{lines_read_back, line_pieces-text_of}
use Rattle.printed_lines.proofs.TextSteps.{text_whole}
use Rattle.printed_lines.proofs.WordFacts.{words_read_back, words_make_lines}
use Rattle.printed_lines.proofs.NumberFacts.{IsWordByte-above_blank, decimal-IsNumeral}
use Rattle.ios_lines.specs.Words.{Word, word_at, says, lacks, is_printable}
use Rattle.ios_lines.specs.Heads.{head_of}
use Rattle.ios_sections.specs.TextLines.{TextLine, text_line, lines_in, carets, opens_banner, outside_banners, counts, counted_lines, is_end}
use Rattle.ios_sections.specs.TextLines.{first_indent, opens_section, section_lines, sections_of, TextSection}
use Rattle.ios_sections.specs.Sections.{section_of, section_with, sections_among}
use Rattle.ios_sections.specs.JoinedLines.{further_on, begins_banner, sections_further_on}
use Rattle.ios_sections.proofs.JoinedFacts.{lines_in-append}
use Rattle.ios_reader.specs.InsertedLines.{IsLineBlock}
use Rattle.printed_sections.specs.PrintedSections.{is_fine, is_fine_line, line_with, section_lines_from, section_text}

-- ---- words that can be printed ----

printable_bytes : (word : List ℕ) → list_all is_printable word ≡ true → All IsWordByte word
printable_bytes [] fine = All-nil IsWordByte
printable_bytes (b ∷ word) fine =
    let parts : (is_printable b ≡ true) × (list_all is_printable word ≡ true) = and_parts (is_printable b) (list_all is_printable word) fine in
    let above : nat_le 33 b ≡ true = (and_parts (nat_le 33 b) (nat_le b 126) parts.0).0 in
    All-cons IsWordByte b word (IsWordByte-above_blank b (let low = leb-true 33 b above in omega (arith, low))) (printable_bytes word parts.1)

printed_words : (words : List Word) → list_all is_fine words ≡ true → All IsPrintedWord words
printed_words [] fine = All-nil IsPrintedWord
printed_words (word ∷ words) fine =
    let parts : (is_fine word ≡ true) × (list_all is_fine words ≡ true) = and_parts (is_fine word) (list_all is_fine words) fine in
    let own : (nat_lt 0 (length word) ≡ true) × (list_all is_printable word ≡ true) =
    and_parts (nat_lt 0 (length word)) (list_all is_printable word) parts.0 in
    All-cons IsPrintedWord word words (record { some = ltb-true 0 (length word) own.0; bytes = printable_bytes word own.1 }) (printed_words words parts.1)

-- a number in decimal is a word that can be printed
digits_printable : (b : ℕ) → IsAsciiDigit b → is_printable b ≡ true
digits_printable b digit = and_from (nat_le 33 b) (nat_le b 126) (le-leb 33 b (let low = digit.0 in omega (arith, low)))
    (le-leb b 126 (let high = digit.1 in omega (arith, high)))

all_printable : (word : Word) → All IsAsciiDigit word → list_all is_printable word ≡ true
all_printable [] digits = refl
all_printable (b ∷ word) digits =
    and_from (is_printable b) (list_all is_printable word) (digits_printable b (All-head IsAsciiDigit b word digits))
    (all_printable word (All-tail IsAsciiDigit b word digits))

pub some_test : (n : ℕ) → 0 < n → nat_lt 0 n ≡ true
some_test n some = grind (arith, nat_tests)

pub number_fine : (n : ℕ) → n < 2 ^ 64 → is_fine (decimal n) ≡ true
number_fine n small =
    let numeral = decimal-IsNumeral n small in
    and_from (nat_lt 0 (length (decimal n))) (list_all is_printable (decimal n)) (some_test (length (decimal n)) numeral.some)
    (all_printable (decimal n) numeral.digits)

-- what a line that is fine has
record FineLine (words : List Word) : Type 0 where
  pub printed : All IsPrintedWord words
  pub some : 0 < length words
  pub counted : (not (lacks words 0) && not (nat_eq (slice_index (word_at words 0) 0) 33)) ≡ true
  pub no_banner : says words 0 (codes "banner") ≡ false

some_words : (words : List Word) → not (lacks words 0) ≡ true → 0 < length words
some_words [] some = absurd cc
some_words (word ∷ words) some = omega arith

fine_line : (words : List Word) → is_fine_line words ≡ true → FineLine words
fine_line words fine =
    let all : Bool = list_all is_fine words in
    let some : Bool = not (lacks words 0) in
    let mark : Bool = not (nat_eq (slice_index (word_at words 0) 0) 33) in
    let banner : Bool = says words 0 (codes "banner") in
    let last : ((all && some && mark) ≡ true) × (not banner ≡ true) = and_parts (all && some && mark) (not banner) fine in
    let third : ((all && some) ≡ true) × (mark ≡ true) = and_parts (all && some) mark last.0 in
    let two : (all ≡ true) × (some ≡ true) = and_parts all some third.0 in
    record {
      printed = printed_words words two.0;
      some = some_words words two.1;
      counted = ap (λ (b : Bool). b && mark) two.1 ∙ third.1;
      no_banner = not-true banner last.1;
    }

-- ---- one line ----

module _ (bytes : List ℕ) (indent : ℕ) (words : List Word) (printed : IsPrintedLine bytes) (reads : ReadsAsWords bytes indent words)
    (some : 0 < length words) where
  abbrev text : List ℕ
  text = text_of (bytes ∷ [])

  all : All IsPrintedLine (bytes ∷ [])
  all = All-cons IsPrintedLine bytes [] printed (All-nil IsPrintedLine)

  stripped : strip_carriage_return bytes ∷ [] ≡ bytes ∷ []
  stripped = ap (map strip_carriage_return) (sym (line_pieces-text_of (bytes ∷ []) all)) ∙ (lines_read_back (bytes ∷ []) all).texts

  first_stripped : strip_carriage_return bytes ≡ bytes
  first_stripped = let e = stripped in cc

  abbrev line : Line
  line = line_of 1 0 bytes

  placed : text_lines text ≡ line ∷ []
  placed = (lines_read_back (bytes ∷ []) all).lines

  shown : bytes_of text line.span ∷ [] ≡ bytes ∷ []
  shown = ap (map (λ (l : Line). bytes_of text l.span)) (sym placed) ∙ text_lines-texts text ∙ (lines_read_back (bytes ∷ []) all).texts

  its_bytes : bytes_of text line.span ≡ bytes
  its_bytes = let e = shown in cc

  single_line : lines_in text ≡ line_with 1 indent bytes words ∷ []
  single_line =
      ap (map (text_line text)) placed
      ∙ ap (λ l. line_with 1 line.indent l (words_in l) ∷ []) its_bytes
      ∙ ap (λ i. line_with 1 i bytes (words_in bytes) ∷ []) (ap indent_of first_stripped ∙ reads.indent some)
      ∙ ap (λ w. line_with 1 indent bytes w ∷ []) reads.words

  -- a line, and then others
  line_more : (more : List (List ℕ)) → lines_in (text_of (bytes ∷ more)) ≡ line_with 1 indent bytes words ∷ map (further_on 1)
      (lines_in (text_of more))
  line_more more =
      let one : lines_in (bytes ++ 10 ∷ []) ≡ line_with 1 indent bytes words ∷ [] =
      sym (ap lines_in (append-nil (bytes ++ 10 ∷ []))) ∙ single_line in
      let whole : is_of_whole_lines (bytes ++ 10 ∷ []) ≡ true = sym (ap is_of_whole_lines (append-nil (bytes ++ 10 ∷ [])))
      ∙ text_whole (bytes ∷ []) in
      lines_in-append (bytes ++ 10 ∷ []) (text_of more) whole
      ∙ ap (λ (ls : List TextLine). ls ++ map (further_on (length ls)) (lines_in (text_of more))) one

-- ---- the lines of a section ----

later_lines : (k n : ℕ) (bodies : List (List Word)) → map (further_on k) (section_lines_from n bodies) ≡ section_lines_from (k + n) bodies
later_lines k n [] = refl
later_lines k n (words ∷ more) =
    let next : k + (n + 1) ≡ k + n + 1 = omega arith in
    ap (λ (ls : List TextLine). line_with (k + n) 1 (spaced words) words ∷ ls) (later_lines k (n + 1) more ∙ ap (λ m. section_lines_from m more) next)

bodies_read : (bodies : List (List Word)) → list_all is_fine_line bodies ≡ true → lines_in (text_of (map spaced bodies)) ≡ section_lines_from 1 bodies
bodies_read [] fine = refl
bodies_read (words ∷ more) fine =
    let parts : (is_fine_line words ≡ true) × (list_all is_fine_line more ≡ true) = and_parts (is_fine_line words) (list_all is_fine_line more) fine in
    let own : FineLine words = fine_line words parts.0 in
    line_more (spaced words) 1 words (words_make_lines words own.printed).1 (words_read_back words own.printed).1 own.some (map spaced more)
    ∙ ap (λ (ls : List TextLine). line_with 1 1 (spaced words) words ∷ map (further_on 1) ls) (bodies_read more parts.1)
    ∙ ap (λ (ls : List TextLine). line_with 1 1 (spaced words) words ∷ ls) (later_lines 1 1 more)

-- lines that count, and open no banner
all_count : (l : TextLine) (ls : List TextLine) → begins_banner l ≡ false → counts l ≡ true → counted_lines ls ≡ ls →
    counted_lines (l ∷ ls) ≡ l ∷ ls
all_count l ls banner counted rest =
    let opens : opens_banner l ≡ false = ap (λ (b : Bool). b && nat_eq (carets l.bytes) 1) banner in
    ap (λ (b : Bool). filter counts (l ∷ outside_banners b ls)) opens
    ∙ ap (λ (b : Bool). cond b (l ∷ counted_lines ls) (counted_lines ls)) counted
    ∙ ap (λ (w : List TextLine). l ∷ w) rest

bodies_counted : (n : ℕ) (bodies : List (List Word)) → list_all is_fine_line bodies ≡ true →
    counted_lines (section_lines_from n bodies) ≡ section_lines_from n bodies
bodies_counted n [] fine = refl
bodies_counted n (words ∷ more) fine =
    let parts : (is_fine_line words ≡ true) × (list_all is_fine_line more ≡ true) = and_parts (is_fine_line words) (list_all is_fine_line more) fine in
    let own : FineLine words = fine_line words parts.0 in
    all_count (line_with n 1 (spaced words) words) (section_lines_from (n + 1) more) own.no_banner own.counted (bodies_counted (n + 1) more parts.1)

bodies_open_no_banner : (n : ℕ) (bodies : List (List Word)) → list_all is_fine_line bodies ≡ true →
    list_any begins_banner (section_lines_from n bodies) ≡ false
bodies_open_no_banner n [] fine = refl
bodies_open_no_banner n (words ∷ more) fine =
    let parts : (is_fine_line words ≡ true) × (list_all is_fine_line more ≡ true) = and_parts (is_fine_line words) (list_all is_fine_line more) fine in
    or_from (says words 0 (codes "banner")) (list_any begins_banner (section_lines_from (n + 1) more)) (fine_line words parts.0).no_banner
    (bodies_open_no_banner (n + 1) more parts.1)

bodies_no_end : (n : ℕ) (bodies : List (List Word)) → list_any is_end (section_lines_from n bodies) ≡ false
bodies_no_end n [] = refl
bodies_no_end n (words ∷ more) = bodies_no_end (n + 1) more

bodies_open_none : (n : ℕ) (bodies : List (List Word)) → sections_of (section_lines_from n bodies) ≡ []
bodies_open_none n [] = refl
bodies_open_none n (words ∷ more) = bodies_open_none (n + 1) more

abbrev is_inside : TextLine → Bool
is_inside line = not (opens_section line)

bodies_inside : (n : ℕ) (bodies : List (List Word)) → length (section_lines_from n bodies) ≤ prefix_len is_inside (section_lines_from n bodies)
bodies_inside n [] = omega arith
bodies_inside n (words ∷ more) = let rest = bodies_inside (n + 1) more in omega (arith, rest)

bodies_kept : (n : ℕ) (bodies : List (List Word)) →
    filter (λ (line : TextLine). nat_eq line.indent 1) (section_lines_from n bodies) ≡ section_lines_from n bodies
bodies_kept n [] = refl
bodies_kept n (words ∷ more) = ap (λ (ls : List TextLine). line_with n 1 (spaced words) words ∷ ls) (bodies_kept (n + 1) more)

-- all of them are the lines of their section
bodies_in_section : (n : ℕ) (bodies : List (List Word)) → section_lines (section_lines_from n bodies) ≡ section_lines_from n bodies
bodies_in_section n [] = refl
bodies_in_section n (words ∷ more) =
    let inside : before_first opens_section (section_lines_from n (words ∷ more)) ≡ section_lines_from n (words ∷ more) =
    take_all (prefix_len is_inside (section_lines_from n (words ∷ more))) (section_lines_from n (words ∷ more)) (bodies_inside n (words ∷ more)) in
    ap (λ (ls : List TextLine). filter (λ (line : TextLine). nat_eq line.indent (first_indent ls)) ls) inside ∙ bodies_kept n (words ∷ more)

-- ---- a section ----

module _ (head : List Word) (bodies : List (List Word)) (fine_head : is_fine_line head ≡ true)
    (not_end : says head 0 (codes "end") ≡ false) (fine : list_all is_fine_line bodies ≡ true) where
  head_line : FineLine head
  head_line = fine_line head fine_head

  abbrev opening : ℕ → TextLine
  opening n = line_with n 0 (joined head) head

  section_read : lines_in (section_text head bodies) ≡ opening 1 ∷ section_lines_from 2 bodies
  section_read =
      line_more (joined head) 0 head (words_make_lines head head_line.printed).0 (words_read_back head head_line.printed).0 head_line.some (map spaced bodies)
      ∙ ap (λ (ls : List TextLine). opening 1 ∷ map (further_on 1) ls) (bodies_read bodies fine)
      ∙ ap (λ (ls : List TextLine). opening 1 ∷ ls) (later_lines 1 1 bodies)

  section_counted : (n : ℕ) → counted_lines (opening n ∷ section_lines_from (n + 1) bodies) ≡ opening n ∷ section_lines_from (n + 1) bodies
  section_counted n = all_count (opening n) (section_lines_from (n + 1) bodies) head_line.no_banner head_line.counted (bodies_counted (n + 1) bodies fine)

  no_end_line : (is_end (opening 1) || list_any is_end (section_lines_from 2 bodies)) ≡ false
  no_end_line = or_from (is_end (opening 1)) (list_any is_end (section_lines_from 2 bodies)) (ap (λ (b : Bool). b && lacks head 1) not_end)
      (bodies_no_end 2 bodies)

  pub section_fits : IsLineBlock (section_text head bodies)
  section_fits = record {
    whole = text_whole (joined head ∷ map spaced bodies);
    opens = ap (λ (ls : List TextLine). first_indent (counted_lines ls)) section_read ∙ ap first_indent (section_counted 1);
    no_banner = ap (list_any begins_banner) section_read
        ∙ or_from (says head 0 (codes "banner")) (list_any begins_banner (section_lines_from 2 bodies)) head_line.no_banner
        (bodies_open_no_banner 2 bodies fine);
    no_end = ap (list_any is_end) section_read ∙ no_end_line;
  }

  pub section_says : (count : ℕ) →
      sections_further_on count (section_text head bodies) ≡ section_with (head_of head) (count + 1) (section_lines_from (count + 2) bodies) ∷ []
  section_says count =
      let next : count + 2 ≡ count + 1 + 1 = omega arith in
      ap (λ (ls : List TextLine). sections_among (counted_lines (map (further_on count) ls))) section_read
      ∙ ap (λ (ls : List TextLine). sections_among (counted_lines (opening (count + 1) ∷ ls))) (later_lines count 2 bodies)
      ∙ ap (λ (m : ℕ). sections_among (counted_lines (opening (count + 1) ∷ section_lines_from m bodies))) next
      ∙ ap sections_among (section_counted (count + 1))
      ∙ ap (λ (ls : List TextLine). section_with (head_of head) (count + 1) ls ∷ sections_among
      (section_lines_from (count + 1 + 1) bodies)) (bodies_in_section (count + 1 + 1) bodies)
      ∙ ap (λ (ss : List TextSection). section_with (head_of head) (count + 1) (section_lines_from (count + 1 + 1) bodies) ∷ map section_of
      ss) (bodies_open_none (count + 1 + 1) bodies)
      ∙ ap (λ (m : ℕ). section_with (head_of head) (count + 1) (section_lines_from m bodies) ∷ []) (sym next)
