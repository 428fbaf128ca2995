-- Words that are printed with one blank between them, or before each, read as these words.
use Rattle.std.proofs.Common.{◌≡◌, ◌≢◌, ℕ, ◌+◌, ◌-◌, ◌<◌, Bool, true, false, cond, ltb, List, [], ◌∷◌, ◌++◌, length, take}
use Rattle.std.proofs.Common.{get_or, map, append-nil, refl, ap, subst, ◌∙◌, arith}
use Rattle.std.specs.List.{All, filter, slice_split, prefix_len}
use Rattle.std.proofs.lemmas.Bool.Decides.{nat_tests}
use Rattle.std.proofs.lemmas.List.Elements.{All-append, All-cons, All-head, All-map, All-nil, All-tail, All-weaker}
use Rattle.std.proofs.lemmas.List.Splits.{slice_split_at, slice_split_none}
use Rattle.net_addr.specs.declared.span.Span.{Span}
use Rattle.net_addr.specs.Spans.{has_bytes}
use Rattle.net_addr.specs.Blanks.{is_blank, spans_of, words_in}
use Rattle.printed_lines.specs.Words.{IsWordByte, IsPrintedWord, spaced, joined}
use Rattle.printed_lines.specs.Texts.{IsPrintedLine, line}
use Rattle.printed_lines.specs.ReadBack.{ReadsAsLines, ReadsAsWords, LineReadsBack, WordsReadBack, WordsMakeLines, TextsReadBack}
use Rattle.printed_lines.proofs.LineFacts.{lines_read_back}

no_blank : (b : ℕ) → IsWordByte b → is_blank b ≡ false
no_blank b byte =
    let no_space : b ≢ 32 = byte.no_space in
    let no_tab : b ≢ 9 = byte.no_tab in
    grind (arith, nat_tests)

no_blanks : (word : List ℕ) → IsPrintedWord word → All (λ b. is_blank b ≡ false) word
no_blanks word fine = All-weaker IsWordByte (λ b. is_blank b ≡ false) no_blank word fine.bytes

-- a word and further ones, each after a blank, fall into just these
first_and_more :
    (word : List ℕ) (more : List (List ℕ)) → IsPrintedWord word → All IsPrintedWord more →
    slice_split is_blank (word ++ spaced more) ≡ word ∷ more
first_and_more word [] fine others =
    ap (slice_split is_blank) (append-nil word) ∙ slice_split_none is_blank word (no_blanks word fine)
first_and_more word (next ∷ more) fine others =
    slice_split_at is_blank word 32 (next ++ spaced more) (no_blanks word fine) refl
    ∙ ap (λ (pieces : List (List ℕ)). word ∷ pieces)
    (first_and_more next more (All-head IsPrintedWord next more others) (All-tail IsPrintedWord next more others))

-- whether a piece is a word
abbrev has_some : List ℕ → Bool
has_some piece = ltb 0 (length piece)

above_none : (n : ℕ) → 0 < n → ltb 0 n ≡ true
above_none n some = grind (arith, nat_tests)

none_empty : (printed : List (List ℕ)) → All IsPrintedWord printed → filter has_some printed ≡ printed
none_empty [] fine = refl
none_empty (word ∷ more) fine =
    ap (λ (b : Bool). cond b (word ∷ filter has_some more) (filter has_some more))
    (above_none (length word) (All-head IsPrintedWord word more fine).some)
    ∙ ap (λ (rest : List (List ℕ)). word ∷ rest) (none_empty more (All-tail IsPrintedWord word more fine))

some_bytes : (start n : ℕ) → 0 < n → ltb start (start + n) ≡ true
some_bytes start n some = grind (arith, nat_tests)

no_bytes : (start : ℕ) → ltb start (start + 0) ≡ false
no_bytes start = grind (arith, nat_tests)

-- the span of a piece from a place on
abbrev span_at : ℕ → List ℕ → Span
span_at start piece = record { start = start; stop = start + length piece }

none_without_bytes : (start : ℕ) (printed : List (List ℕ)) → All IsPrintedWord printed →
    filter has_bytes (spans_of start printed) ≡ spans_of start printed
none_without_bytes start [] fine = refl
none_without_bytes start (word ∷ more) fine =
    let later : List Span = spans_of (start + length word + 1) more in
    ap (λ (b : Bool). cond b (span_at start word ∷ filter has_bytes later) (filter has_bytes later))
    (some_bytes start (length word) (All-head IsPrintedWord word more fine).some)
    ∙ ap (λ (rest : List Span). span_at start word ∷ rest)
    (none_without_bytes (start + length word + 1) more (All-tail IsPrintedWord word more fine))

-- where a line falls into words, these are the words of a span that holds its bytes
spans_from :
    (line : List ℕ) (start : ℕ) (printed : List (List ℕ)) →
    All IsPrintedWord printed → slice_split is_blank line ≡ printed →
    filter has_bytes (spans_of start (slice_split is_blank line)) ≡ spans_of start printed
spans_from line start printed fine pieces =
    ap (λ (all : List (List ℕ)). filter has_bytes (spans_of start all)) pieces ∙ none_without_bytes start printed fine

starts_none : (word rest : List ℕ) → IsPrintedWord word → prefix_len is_blank (word ++ rest) ≡ 0
starts_none [] rest fine = absurd (omega (arith, fine.some))
starts_none (b ∷ word) rest fine =
    ap (λ (t : Bool). cond t (1 + prefix_len is_blank (word ++ rest)) 0) (All-head (λ x. is_blank x ≡ false) b word (no_blanks (b ∷ word) fine))

spans_none : (start : ℕ) → filter has_bytes (spans_of start ([] ∷ [])) ≡ []
spans_none start = ap (λ (b : Bool). cond b (span_at start [] ∷ []) []) (no_bytes start)

joined_reads : (printed : List (List ℕ)) → All IsPrintedWord printed → ReadsAsWords (joined printed) 0 printed
joined_reads [] fine = record {
  words = refl;
  spans = λ text span same. ap (λ (line : List ℕ). filter has_bytes (spans_of span.start (slice_split is_blank line))) same ∙ spans_none span.start;
  indent = λ some. absurd (omega arith);
}
joined_reads (word ∷ more) fine =
    let first : IsPrintedWord word = All-head IsPrintedWord word more fine in
    let pieces : slice_split is_blank (word ++ spaced more) ≡ word ∷ more =
    first_and_more word more first (All-tail IsPrintedWord word more fine) in
    record {
      words = ap (filter has_some) pieces ∙ none_empty (word ∷ more) fine;
      spans = λ text span same.
          let here : span.start ≡ span.start + 0 = omega arith in
          ap (λ (line : List ℕ). filter has_bytes (spans_of span.start (slice_split is_blank line))) same
          ∙ spans_from (word ++ spaced more) span.start (word ∷ more) fine pieces
          ∙ ap (λ (start : ℕ). spans_of start (word ∷ more)) here;
      indent = λ some. ap (λ (n : ℕ). length (take n (word ++ spaced more))) (starts_none word (spaced more) first);
    }

spaced_reads : (printed : List (List ℕ)) → All IsPrintedWord printed → ReadsAsWords (spaced printed) 1 printed
spaced_reads [] fine = record {
  words = refl;
  spans = λ text span same. ap (λ (line : List ℕ). filter has_bytes (spans_of span.start (slice_split is_blank line))) same ∙ spans_none span.start;
  indent = λ some. absurd (omega arith);
}
spaced_reads (word ∷ more) fine =
    let first : IsPrintedWord word = All-head IsPrintedWord word more fine in
    let pieces : slice_split is_blank (32 ∷ (word ++ spaced more)) ≡ [] ∷ word ∷ more =
    ap (λ (all : List (List ℕ)). [] ∷ all) (first_and_more word more first (All-tail IsPrintedWord word more fine)) in
    record {
      words = ap (filter has_some) pieces ∙ none_empty (word ∷ more) fine;
      spans = λ text span same.
          let next : span.start + 0 + 1 ≡ span.start + 1 = omega arith in
          let later : List Span = spans_of (span.start + 0 + 1) (word ∷ more) in
          ap (λ (line : List ℕ). filter has_bytes (spans_of span.start (slice_split is_blank line))) same
          ∙ ap (λ (all : List (List ℕ)). filter has_bytes (spans_of span.start all)) pieces
          ∙ ap (λ (b : Bool). cond b (span_at span.start [] ∷ filter has_bytes later) (filter has_bytes later)) (no_bytes span.start)
          ∙ none_without_bytes (span.start + 0 + 1) (word ∷ more) fine
          ∙ ap (λ (start : ℕ). spans_of start (word ∷ more)) next;
      indent = λ some. ap (λ (n : ℕ). length (take (1 + n) (32 ∷ (word ++ spaced more)))) (starts_none word (spaced more) first);
    }

-- words joined by one blank read as just these words; so do words with a blank before each
pub words_read_back : WordsReadBack
words_read_back printed fine = (joined_reads printed fine, spaced_reads printed fine)

-- a byte of a line of words: a blank, or a byte of a word
pub record IsLineByte (b : ℕ) : Type 0 where
  pub no_feed : b ≢ 10
  pub no_return : b ≢ 13

blank_in_line : IsLineByte 32
blank_in_line = record { no_feed = λ e. absurd (omega arith); no_return = λ e. absurd (omega arith) }

word_in_line : (b : ℕ) → IsWordByte b → IsLineByte b
word_in_line b byte = record { no_feed = byte.no_feed; no_return = byte.no_return }

word_bytes : (word : List ℕ) → IsPrintedWord word → All IsLineByte word
word_bytes word fine = All-weaker IsWordByte IsLineByte word_in_line word fine.bytes

spaced_bytes : (printed : List (List ℕ)) → All IsPrintedWord printed → All IsLineByte (spaced printed)
spaced_bytes [] fine = All-nil IsLineByte
spaced_bytes (word ∷ more) fine =
    All-cons IsLineByte 32 (word ++ spaced more) blank_in_line
    (All-append IsLineByte word (spaced more) (word_bytes word (All-head IsPrintedWord word more fine))
    (spaced_bytes more (All-tail IsPrintedWord word more fine)))

joined_bytes : (printed : List (List ℕ)) → All IsPrintedWord printed → All IsLineByte (joined printed)
joined_bytes [] fine = All-nil IsLineByte
joined_bytes (word ∷ more) fine =
    All-append IsLineByte word (spaced more) (word_bytes word (All-head IsPrintedWord word more fine))
    (spaced_bytes more (All-tail IsPrintedWord word more fine))

no_return_last : (line : List ℕ) → All IsLineByte line → get_or line (length line - 1) 0 ≢ 13
no_return_last [] bytes e = absurd (omega arith)
no_return_last (b ∷ line) bytes e = (bytes (length (b ∷ line) - 1) 0 (omega arith)).no_return e

-- bytes without line feeds and carriage returns are a line that can be printed
pub printed_line : (line : List ℕ) → All IsLineByte line → IsPrintedLine line
printed_line line bytes = record {
  no_feed = All-weaker IsLineByte (λ b. b ≢ 10) (λ b byte. byte.no_feed) line bytes;
  no_return = no_return_last line bytes;
}

-- words with one blank between them, or before each, are a line that can be printed
pub words_make_lines : WordsMakeLines
words_make_lines printed fine = (printed_line (joined printed) (joined_bytes printed fine), printed_line (spaced printed) (spaced_bytes printed fine))

-- a text of one line, made of words, reads as just this line
pub line_reads_back : LineReadsBack
line_reads_back first more fine =
    let bytes : List ℕ = joined (first ∷ more) in
    let printed : IsPrintedLine bytes = (words_make_lines (first ∷ more) fine).0 in
    subst (λ (text : List ℕ). ReadsAsLines text (bytes ∷ [])) (append-nil (line first more))
    (lines_read_back (bytes ∷ []) (All-cons IsPrintedLine bytes [] printed (All-nil IsPrintedLine)))

words_of_each : (printed : List (List (List ℕ))) → All (All IsPrintedWord) printed → map words_in (map joined printed) ≡ printed
words_of_each [] fine = refl
words_of_each (words ∷ more) fine =
    ap (λ (first : List (List ℕ)). first ∷ map words_in (map joined more)) (joined_reads words (All-head (All IsPrintedWord) words more fine)).words
    ∙ ap (λ (rest : List (List (List ℕ))). words ∷ rest) (words_of_each more (All-tail (All IsPrintedWord) words more fine))

-- lines of words joined by one blank, each ended by a line feed, read as just these lines of just these words
pub texts_read_back : TextsReadBack
texts_read_back printed fine =
    let fine_lines : All IsPrintedLine (map joined printed) =
    All-map IsPrintedLine joined printed
    (All-weaker (All IsPrintedWord) (λ words. IsPrintedLine (joined words)) (λ words good. (words_make_lines words good).0) printed fine) in
    ap (map words_in) (lines_read_back (map joined printed) fine_lines).texts ∙ words_of_each printed fine
