-- How the words of a span are found one after another.
use Rattle.std.proofs.lemmas.Grind.{common_steps}
use Rattle.std.proofs.Common.{◌≡◌, ℕ, ◌+◌, ◌-◌, ◌≤◌, Bool, cond, ltb, List, [], ◌∷◌, ◌++◌, length, take, drop, map}
use Rattle.std.proofs.Common.{append_assoc, arith, refl, sym, ap, ◌∙◌}
use Rattle.std.specs.List.{slice_range, slice_split, position_or_len, filter, All}
use Rattle.std.proofs.lemmas.Bool.{cases_lt}
use Rattle.std.proofs.lemmas.Bool.Decides.{nat_tests}
use Rattle.std.proofs.lemmas.List.{drop_all, drop-drop, length-take-le, take-append-drop}
use Rattle.std.proofs.lemmas.List.Elements.{filter-append, All-cons, All-nil, All-filter}
use Rattle.std.proofs.lemmas.List.Splits.{slice_split_first}
use Rattle.std.proofs.lemmas.Slice.{between_is}
use Rattle.net_addr.specs.declared.span.Span.{Span}
use Rattle.net_addr.specs.Spans.{bytes_of, has_bytes, LiesIn}
use Rattle.net_addr.specs.Blanks.{is_blank, spans_of, word_spans, words_in}
use Rattle.net_addr.proofs.PieceFacts.{no_separator}
use Rattle.net_addr.proofs.PlacedPieces.{ArePlaced, ArePlaced-slice_split, StandsAt-bytes, StandsAt-lies}

-- the span between two places
abbrev pub span_at : ℕ → ℕ → Span
span_at start stop = record { start = start; stop = stop }

no_word : (m : ℕ) → filter has_bytes (span_at m (m + 0) ∷ []) ≡ []
no_word m = grind (arith, nat_tests)

-- the first word of some bytes, if any, and the others
pub words_first : (xs : List ℕ) (start n : ℕ) → n ≡ position_or_len is_blank xs → n ≤ length xs →
    filter has_bytes (spans_of start (slice_split is_blank xs)) ≡ filter has_bytes (span_at start (start + n) ∷ []) ++ filter has_bytes
    (spans_of (start + n + 1) (slice_split is_blank (drop (n + 1) xs)))
words_first xs start n place within =
    grind (arith, common_steps, cases_lt, drop_all, filter-append, length-take-le, no_separator, no_word, slice_split_first)

-- what is left of a span behind a piece
pub slice_range-drop : (text : List ℕ) (start stop n : ℕ) → drop (n + 1) (slice_range text start stop) ≡ slice_range text (start + n + 1) stop
slice_range-drop text start stop n =
    let far : start + (n + 1) ≡ start + n + 1 = omega arith in
    ap (drop (n + 1)) (between_is text start stop)
    ∙ drop-drop (n + 1) start (take stop text)
    ∙ ap (λ (k : ℕ). drop k (take stop text)) far
    ∙ sym (between_is text (start + n + 1) stop)

-- one more piece of a span
pub words_more : (text : List ℕ) (front all : List Span) (start stop n : ℕ) → n ≡ position_or_len is_blank (slice_range text start stop) →
    n ≤ length (slice_range text start stop) → front ++ filter has_bytes (spans_of start (slice_split is_blank (slice_range text start stop))) ≡ all →
    (front ++ filter has_bytes (span_at start (start + n) ∷ [])) ++ filter has_bytes
    (spans_of (start + n + 1) (slice_split is_blank (slice_range text (start + n + 1) stop))) ≡ all
words_more text front all start stop n place within filled =
    append_assoc front (filter has_bytes (span_at start (start + n) ∷ []))
    (filter has_bytes (spans_of (start + n + 1) (slice_split is_blank (slice_range text (start + n + 1) stop))))
    ∙ ap (λ (after : List ℕ). front ++
    (filter has_bytes (span_at start (start + n) ∷ []) ++ filter has_bytes (spans_of (start + n + 1) (slice_split is_blank after))))
    (sym (slice_range-drop text start stop n))
    ∙ ap (λ (w : List Span). front ++ w) (sym (words_first (slice_range text start stop) start n place within))
    ∙ filled

-- at the end of a span no word is left
pub words_end : (text : List ℕ) (front all : List Span) (start stop : ℕ) → stop ≤ start →
    front ++ filter has_bytes (spans_of start (slice_split is_blank (slice_range text start stop))) ≡ all → front ≡ all
words_end text front all start stop end filled = grind (arith, common_steps, no_word)

same_test : (start n : ℕ) → ltb start (start + n) ≡ ltb 0 n
same_test start n = grind (arith, nat_tests)

either_way : (b : Bool) (text : List ℕ) (span : Span) (piece : List ℕ) (spans : List Span) (pieces : List (List ℕ)) → bytes_of text span ≡ piece →
    map (bytes_of text) spans ≡ pieces → map (bytes_of text) (cond b (span ∷ spans) spans) ≡ cond b (piece ∷ pieces) pieces
either_way b text span piece spans pieces here others = grind (arith, common_steps)

spans_of-texts : (text : List ℕ) (start : ℕ) (pieces : List (List ℕ)) → ArePlaced text start pieces →
    map (bytes_of text) (filter has_bytes (spans_of start pieces)) ≡ filter (λ (piece : List ℕ). ltb 0 (length piece)) pieces
spans_of-texts text start [] placed = refl
spans_of-texts text start (piece ∷ more) placed =
    ap (λ (b : Bool). map (bytes_of text)
    (cond b (span_at start (start + length piece) ∷ filter has_bytes (spans_of (start + length piece + 1) more))
    (filter has_bytes (spans_of (start + length piece + 1) more)))) (same_test start (length piece))
    ∙ either_way (ltb 0 (length piece)) text (span_at start (start + length piece)) piece
    (filter has_bytes (spans_of (start + length piece + 1) more)) (filter (λ (part : List ℕ). ltb 0 (length part)) more)
    (StandsAt-bytes text start piece placed.0)
    (spans_of-texts text (start + length piece + 1) more placed.1)

spans_of-inside : (text : List ℕ) (start : ℕ) (pieces : List (List ℕ)) → ArePlaced text start pieces → All (LiesIn text) (spans_of start pieces)
spans_of-inside text start [] placed = All-nil (LiesIn text)
spans_of-inside text start (piece ∷ more) placed =
    All-cons (LiesIn text) (span_at start (start + length piece)) (spans_of (start + length piece + 1) more)
    (StandsAt-lies text start piece placed.0)
    (spans_of-inside text (start + length piece + 1) more placed.1)

pieces_placed : (text : List ℕ) (span : Span) → LiesIn text span → ArePlaced text span.start (slice_split is_blank (bytes_of text span))
pieces_placed text span lies =
    ArePlaced-slice_split is_blank text span.start (bytes_of text span) (drop (span.stop - span.start) (drop span.start text)) (omega arith)
    (sym (take-append-drop (span.stop - span.start) (drop span.start text)))

-- the spans of words hold the bytes of the words
pub word_spans-texts : (text : List ℕ) (span : Span) → LiesIn text span → map (bytes_of text) (word_spans text span) ≡ words_in (bytes_of text span)
word_spans-texts text span lies = spans_of-texts text span.start (slice_split is_blank (bytes_of text span)) (pieces_placed text span lies)

-- the spans of words lie in the text
pub word_spans-inside : (text : List ℕ) (span : Span) → LiesIn text span → All (LiesIn text) (word_spans text span)
word_spans-inside text span lies =
    All-filter has_bytes (LiesIn text) (spans_of span.start (slice_split is_blank (bytes_of text span)))
    (spans_of-inside text span.start (slice_split is_blank (bytes_of text span)) (pieces_placed text span lies))
