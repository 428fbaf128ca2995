-- Blanks, and the words between them. `slice_split p bytes` are the pieces between the bytes that pass p.
use Rattle.std.specs.Prelude.{ℕ, ◌+◌, Bool, ◌==◌, ◌||◌, nat_lt, List, [], ◌∷◌, length, filter, take_while}
use Rattle.std.specs.List.{slice_split}
use Rattle.net_addr.specs.declared.span.Span.{Span}
use Rattle.net_addr.specs.Spans.{bytes_of, has_bytes}

-- a blank is a space (32) or a tab (9)
abbrev pub is_blank : ℕ → Bool
is_blank b = b == 32 || b == 9

-- how many blanks some bytes begin with
abbrev pub indent_of : List ℕ → ℕ
indent_of bytes = length (take_while is_blank bytes)

-- the words among some bytes: the pieces between their blanks, less the empty ones
abbrev pub words_in : List ℕ → List (List ℕ)
words_in bytes = filter (λ piece. nat_lt 0 (length piece)) (slice_split is_blank bytes)

-- the spans of pieces that follow one another from a place on, with one byte between each and the next
abbrev pub spans_of : ℕ → List (List ℕ) → List Span
spans_of start [] = []
spans_of start (piece ∷ more) =
    (record { start = start; stop = start + length piece }) ∷ spans_of (start + length piece + 1) more

-- the spans of the words in a span of a text
abbrev pub word_spans : List ℕ → Span → List Span
word_spans text span = filter has_bytes (spans_of span.start (slice_split is_blank (bytes_of text span)))
